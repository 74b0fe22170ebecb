-- Rounding budgets by the coefficients, and by the number of commands.
use Rattle.std.specs.Prelude.{All, fold}
use Rattle.std.proofs.Common.{◌≡◌, ℕ, zero, suc, ◌+◌, ◌*◌, ◌≤◌, max, List, [], ◌∷◌, length, refl, ap, arith, mul-le-mul_right}
use Rattle.std.proofs.lemmas.List.Elements.{All-head, All-tail, All-weaker}
use Rattle.std.proofs.lemmas.List.Sums.{sum_by-le}
use Rattle.std.proofs.lemmas.Bool.{eqb-true}
use Rattle.pix_ops.specs.declared.ops.Op.{Op}
use Rattle.pix_ops.specs.Operators.{Coefficient, Zero, One, OtherAlpha, OneMinusAlpha, row, reads, enters, product_count}
use Rattle.pix_ops.specs.ExactRun.{ChannelEffect, Replaced, Composited, Matted, Budget, both, composite_budget, budget_step, effect_count, doubled_counts, IsUnmatted, HasConstantSource, AreAtMost, HasSmallBudget}

-- 1 where the alpha's budget stays: where the destination's coefficient is not zero, or the
-- source's reads the alpha
abbrev pub alpha_share : Coefficient → Coefficient → ℕ
alpha_share a b = max (enters b) (reads a)

-- the budgets after a composite of the count c by the coefficients of source and destination
pub record Spends (a b : Coefficient) (c : ℕ) (before after : Budget) : Type 0 where
  pub channel : after.channel ≡ c + enters b * before.channel + reads a * before.alpha
  pub alpha : after.alpha ≡ c + alpha_share a b * before.alpha

pub spends : (op : Op) (count : ℕ) (before : Budget) → Spends (row op).source (row op).dest count before (composite_budget op count before)
spends op count before = record { channel = refl; alpha = refl }

pub reads_most : (a : Coefficient) → reads a ≤ 1
reads_most Zero = omega arith
reads_most One = omega arith
reads_most OtherAlpha = omega arith
reads_most OneMinusAlpha = omega arith

enters_most : (a : Coefficient) → enters a ≤ 1
enters_most Zero = omega arith
enters_most One = omega arith
enters_most OtherAlpha = omega arith
enters_most OneMinusAlpha = omega arith

count_most : (op : Op) → product_count op ≤ 1 + reads (row op).source
count_most op = omega (arith, reads_most (row op).dest)

-- a composite brings no more than what was there
record Shares (a b : Coefficient) (budget : Budget) : Type 0 where
  channel : enters b * budget.channel ≤ budget.channel
  alpha : reads a * budget.alpha ≤ budget.alpha
  either : alpha_share a b * budget.alpha ≤ budget.alpha

shares : (a b : Coefficient) (budget : Budget) → Shares a b budget
shares a b budget =
    let m : alpha_share a b ≤ 1 = omega (arith, enters_most b, reads_most a) in
    record {
      channel = omega (arith, mul-le-mul_right budget.channel (enters_most b));
      alpha = omega (arith, mul-le-mul_right budget.alpha (reads_most a));
      either = omega (arith, mul-le-mul_right budget.alpha m);
    }

-- the budgets after k effects of any kind, with no matte
record IsAfter (k : ℕ) (budget : Budget) : Type 0 where
  channel : budget.channel ≤ k * k + k
  alpha : budget.alpha ≤ 2 * k

step_after : (effect : ChannelEffect) (k : ℕ) (budget : Budget) → IsUnmatted effect → IsAfter k budget → IsAfter (suc k) (budget_step budget effect)
step_after (Replaced s sa) k budget u h = omega arith
step_after (Composited op s sa) k budget u h =
    let a = (row op).source in
    omega (arith, spends op (product_count op) budget, count_most op, reads_most a, shares a (row op).dest budget)
step_after (Matted op matte s sa) k budget u h = absurd u

run_after : (effects : List ChannelEffect) (k : ℕ) (budget : Budget) → All IsUnmatted effects → IsAfter k budget → IsAfter (k + length effects) (fold budget_step budget effects)
run_after [] k budget u h = omega arith
run_after (effect ∷ effects) k budget u h =
    let now = step_after effect k budget (All-head IsUnmatted effect effects u) h in
    let end = run_after effects (suc k) (budget_step budget effect) (All-tail IsUnmatted effect effects u) now in
    omega (arith, end)

step_listed : (effect : ChannelEffect) (k : ℕ) (budget : Budget) → IsUnmatted effect → HasConstantSource effect → AreAtMost k budget → AreAtMost (suc k) (budget_step budget effect)
step_listed (Replaced s sa) k budget u l h = omega arith
step_listed (Composited op s sa) k budget u l h =
    let a = (row op).source in
    let none : reads a ≡ 0 = eqb-true (reads a) 0 l in
    omega (arith, spends op (product_count op) budget, none, count_most op, ap (λ (x : ℕ). x * budget.alpha) none, shares a (row op).dest budget)
step_listed (Matted op matte s sa) k budget u l h = absurd u

run_listed : (effects : List ChannelEffect) (k : ℕ) (budget : Budget) → All IsUnmatted effects → All HasConstantSource effects → AreAtMost k budget → AreAtMost (k + length effects) (fold budget_step budget effects)
run_listed [] k budget u l h = omega arith
run_listed (effect ∷ effects) k budget u l h =
    let now = step_listed effect k budget (All-head IsUnmatted effect effects u) (All-head HasConstantSource effect effects l) h in
    let end = run_listed effects (suc k) (budget_step budget effect) (All-tail IsUnmatted effect effects u) (All-tail HasConstantSource effect effects l) now in
    omega (arith, end)

-- at most two products enter by an effect with no matte
two_products : (effect : ChannelEffect) → IsUnmatted effect → effect_count effect ≤ 2
two_products (Replaced s sa) u = omega arith
two_products (Composited op s sa) u = omega (arith, count_most op, reads_most (row op).source)
two_products (Matted op matte s sa) u = absurd u

doubled_small : (effects : List ChannelEffect) → All IsUnmatted effects → doubled_counts effects ≤ 4 * length effects
doubled_small effects u = omega (arith, sum_by-le effect_count 2 effects (All-weaker IsUnmatted (λ effect. effect_count effect ≤ 2) two_products effects u))

below_square : (n : ℕ) → n ≤ n * n
below_square zero = omega arith
below_square (suc n) = omega arith

-- the budgets of a run are small by its length
pub budget_small : (effects : List ChannelEffect) → HasSmallBudget effects
budget_small effects =
    let n = length effects in
    record {
      unmatted = λ u. let end = run_after effects 0 (both 0) u (omega arith) in omega (arith, end, below_square n);
      constant_source = λ u l. let end = run_listed effects 0 (both 0) u l (omega arith) in omega (arith, end);
      doubled = doubled_small effects;
    }
