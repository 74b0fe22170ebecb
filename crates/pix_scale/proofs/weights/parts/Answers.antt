use Rattle.std.proofs.Common.{◌≡◌, ℕ, arith, refl, length, ◌+◌, ◌-◌, ap, ◌∙◌}
use Rattle.pix_scale.specs.Axis.{total, nearness, rounded_part}
use Rattle.pix_scale.proofs.Sums.{total_next, total_longer}
use Rattle.pix_scale.proofs.Terms.{made_none, made_more}
use Rattle.pix_scale.proofs.weights.parts.Goals as goal

pub loop-k-init : goal.loop-k-init
loop-k-init c = record { made = made_none _ _; part = refl }

pub marked-requires-clause-part : goal.marked-requires-clause-part
marked-requires-clause-part c =
    let near = λ (j : ℕ). nearness c.args.n c.args.m c.args.i (c.args.first + j) in
    let next = total_next c.loop-k.k near in
    let up = total_longer (c.loop-k.k + 1) (length c.args.row.now) near (omega arith) in
    omega (arith, c.loop-k.invariant.part, c.nearness.ensures.value, c.sum_nearness-sum.ensures.value, next, up)

pub marked-requires-in-loop-k-clause-part : goal.marked-requires-in-loop-k-clause-part
marked-requires-in-loop-k-clause-part c =
    let near = λ (j : ℕ). nearness c.args.n c.args.m c.args.i (c.args.first + j) in
    let up = total_longer c.loop-k.k (length c.args.row.now) near (omega arith) in
    omega (arith, c.loop-k.invariant.part, c.sum_nearness-sum.ensures.value, up)

pub overflow_add-next : goal.overflow_add-next
overflow_add-next c =
    let near = λ (j : ℕ). nearness c.args.n c.args.m c.args.i (c.args.first + j) in
    let up = total_longer c.loop-k.k (length c.args.row.now) near (omega arith) in
    record { fits = omega (arith, c.loop-k.invariant.part, c.sum_nearness-sum.ensures.value, c.sum_nearness-sum.ensures.small, c.nearness.ensures.small, up) }

pub loop-k-preserved : goal.loop-k-preserved
loop-k-preserved c =
    let near = λ (j : ℕ). nearness c.args.n c.args.m c.args.i (c.args.first + j) in
    let next = total_next c.loop-k.k near in
    let sum = c.sum_nearness-sum.result in
    let so_far : c.loop-k.part ≡ total c.loop-k.k near = c.loop-k.invariant.part in
    let more : c.loop-k.part + c.nearness.result ≡ total (c.loop-k.k + 1) near = omega (arith, so_far, c.nearness.ensures.value, next) in
    let a : c.marked.result ≡ rounded_part (total (c.loop-k.k + 1) near) sum = c.marked.ensures.value ∙ ap (λ p. rounded_part p sum) more in
    let b : c.marked-in-loop-k.result ≡ rounded_part (total c.loop-k.k near) sum = c.marked-in-loop-k.ensures.value ∙ ap (λ p. rounded_part p sum) so_far in
    record {
      made = made_more _ _ _ _ (omega arith) c.loop-k.invariant.made (rw (a, b) refl);
      part = more;
    }

pub returns : goal.returns
returns c = λ k lt.
    let near = λ (j : ℕ). nearness c.args.n c.args.m c.args.i (c.args.first + j) in
    c.loop-k.invariant.made.at k (omega arith)
    ∙ ap (λ s. rounded_part (total (k + 1) near) s - rounded_part (total k near) s) c.sum_nearness-sum.ensures.value
