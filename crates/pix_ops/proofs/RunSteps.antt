-- After each effect, and so after a list of them, a rounded channel lies within its budget of the
-- exact one.
use Rattle.std.specs.Prelude.{All, fold}
use Rattle.std.proofs.Common.{◌≡◌, ℕ, ◌+◌, ◌*◌, ◌<◌, ◌≤◌, min, List, [], ◌∷◌, arith, mul-pos, mul-le-mul_right}
use Rattle.std.proofs.lemmas.List.Elements.{All-head, All-tail}
use Rattle.pix_chan.specs.Product.{channel_product, IsProduct}
use Rattle.pix_ops.specs.Operators.{Coefficient, Zero, One, OtherAlpha, OneMinusAlpha, row, count_by, product_count, matted_count, reads, enters}
use Rattle.pix_ops.specs.ExactComposite.{weight, Within}
use Rattle.pix_ops.specs.ExactRun.{ChannelEffect, Replaced, Composited, Matted, InRange, Rounded, rounded_step, Exact, exact_step, Budget, budget_step}
use Rattle.pix_ops.proofs.Within.{within_chain}
use Rattle.pix_ops.proofs.Terms.{term_by, term_is}
use Rattle.pix_ops.proofs.Near.{IsFrom, from_itself, from_product, composite_near}
use Rattle.pix_ops.proofs.ExactSteps.{exact_by, exact_times, channel_stays, alpha_stays, Fits, operators_fit}
use Rattle.pix_ops.proofs.Budgets.{alpha_share, Spends, spends, reads_most}

-- a rounded composite by its coefficients
abbrev pub rounded_by : (ℕ → ℕ → ℕ) → ℕ → Coefficient → Coefficient → ℕ → ℕ → ℕ → ℕ → ℕ
rounded_by product max a b s t d da = min max (term_by product max a s da + term_by product max b d t)

-- neither the channel x nor the fraction v / w is above the maximum, and they are at most b units
-- of 1/fine apart
pub record IsClose (fine max b x v w : ℕ) : Type 0 where
  pub small : x ≤ max
  pub proper : v ≤ max * w
  pub close : Within (b * w) (fine * (x * w)) (fine * v)

-- a channel and its alpha, rounded and exact, and the budgets between them
pub record Holds (fine max : ℕ) (budget : Budget) (made : Rounded) (exact : Exact) : Type 0 where
  pub whole : 0 < exact.whole
  pub channel : IsClose fine max budget.channel made.channel exact.value exact.whole
  pub alpha : IsClose fine max budget.alpha made.alpha exact.alpha exact.whole

-- a composite by the product of some channels, where the source is of the whole f and was rounded k
-- times
module _ (fine k max f : ℕ) (product : ℕ → ℕ → ℕ) (laws : IsProduct fine max product) where
  -- a composite of rounded channels, taken w times: both w and `fine` go into the fractions
  pub composite_rounds : (a b : Coefficient) (s m t n d da w : ℕ) → IsFrom fine k max f s m → IsFrom fine k max f t n → d ≤ max → da ≤ max
      → Within (count_by k a b * f * w) (rounded_by product max a b s t d da * f * w * fine) (exact_by a b m n f (max * w * fine) (d * w * fine) (da * w * fine))
  composite_rounds a b s m t n d da w source alpha ld lda =
      let near = composite_near a b fine k max f s m t n d da product laws source alpha ld lda in
      let c = count_by k a b * f in
      let x = rounded_by product max a b s t d da * f in
      let e = exact_by a b m n f max d da in
      let wide : Within (c * w) (x * w * fine) (e * w * fine) = omega (arith, mul-le-mul_right w near.above, mul-le-mul_right w near.below) in
      rw (exact_times a b max m n f d da w lda, exact_times a b (max * w) m n f (d * w) (da * w) fine (mul-le-mul_right w lda)) at wide

  -- what becomes of a channel at most g off, beside an alpha at most h off
  pub channel_step : (a b : Coefficient) (s m t n d v da z w g h : ℕ) → IsFrom fine k max f s m → IsFrom fine k max f t n → IsClose fine max g d v w → IsClose fine max h da z w
      → IsClose fine max (count_by k a b + enters b * g + reads a * h) (rounded_by product max a b s t d da) (exact_by a b m n f (max * w) v z) (f * w)
  channel_step a b s m t n d v da z w g h source alpha p q =
      let rounds = composite_rounds a b s m t n d da w source alpha p.small q.small in
      let pc : Within (g * w) (d * w * fine) (v * fine) = omega (arith, p.close) in
      let qc : Within (h * w) (da * w * fine) (z * fine) = omega (arith, q.close) in
      let small = mul-le-mul_right fine (mul-le-mul_right w q.small) in
      let proper = mul-le-mul_right fine q.proper in
      let moved = channel_stays a b m n f (max * w * fine) (d * w * fine) (da * w * fine) (v * fine) (z * fine) (g * w) (h * w) source.proper alpha.proper small proper pc qc in
      let c = rw (← (exact_times a b (max * w) m n f v z fine q.proper)) at (within_chain _ _ _ _ _ rounds moved) in
      record { small = omega arith; proper = omega arith; close = omega (arith, c) }

  -- an alpha at most h off, after a composite in which something of it stays
  alpha_step : (a b : Coefficient) (t n da z w h : ℕ) → alpha_share a b ≡ 1 → IsFrom fine k max f t n → Fits a n (weight b f n) f → IsClose fine max h da z w
      → IsClose fine max (count_by k a b + alpha_share a b * h) (rounded_by product max a b t t da da) (exact_by a b n n f (max * w) z z) (f * w)
  alpha_step a b t n da z w h all alpha fits q =
      let rounds = composite_rounds a b t n t n da da w alpha alpha q.small q.small in
      let qc : Within (h * w) (da * w * fine) (z * fine) = omega (arith, q.close) in
      let small = mul-le-mul_right fine (mul-le-mul_right w q.small) in
      let proper = mul-le-mul_right fine q.proper in
      let moved = alpha_stays a b n f (max * w * fine) (da * w * fine) (z * fine) (h * w) alpha.proper fits small proper qc in
      let c = rw (← (exact_times a b (max * w) n n f z z fine q.proper)) at (within_chain _ _ _ _ _ rounds moved) in
      record { small = omega arith; proper = omega arith; close = rw all (omega (arith, c)) }

  -- any alpha at most h off, after a composite
  pub alpha_spends : (a b : Coefficient) (t n da z w h : ℕ) → IsFrom fine k max f t n → Fits a n (weight b f n) f → IsClose fine max h da z w
      → IsClose fine max (count_by k a b + alpha_share a b * h) (rounded_by product max a b t t da da) (exact_by a b n n f (max * w) z z) (f * w)
  alpha_spends a Zero t n da z w h alpha fits q =
      let none : alpha_share a Zero ≡ reads a = omega arith in
      let step = channel_step a Zero t n t n da z da z w h h alpha alpha q q in
      let same : count_by k a Zero + 0 * h + reads a * h ≡ count_by k a Zero + reads a * h = omega arith in
      rw none (rw same at step)
  alpha_spends a One t n da z w h alpha fits q = alpha_step a One t n da z w h (omega (arith, reads_most a)) alpha fits q
  alpha_spends a OtherAlpha t n da z w h alpha fits q = alpha_step a OtherAlpha t n da z w h (omega (arith, reads_most a)) alpha fits q
  alpha_spends a OneMinusAlpha t n da z w h alpha fits q = alpha_step a OneMinusAlpha t n da z w h (omega (arith, reads_most a)) alpha fits q

  -- what becomes of both
  pub composite_holds : (a b : Coefficient) (s m t n : ℕ) (before after : Budget) (dest : Rounded) (exact : Exact)
      → 0 < f → IsFrom fine k max f s m → IsFrom fine k max f t n → Fits a n (weight b f n) f → Spends a b (count_by k a b) before after → Holds fine max before dest exact
      → Holds fine max after
      (record { channel = rounded_by product max a b s t dest.channel dest.alpha; alpha = rounded_by product max a b t t dest.alpha dest.alpha })
      (record { value = exact_by a b m n f (max * exact.whole) exact.value exact.alpha; alpha = exact_by a b n n f (max * exact.whole) exact.alpha exact.alpha; whole = f * exact.whole })
  composite_holds a b s m t n before after dest exact lf source alpha fits spends holds = record {
    whole = mul-pos lf holds.whole;
    channel = rw spends.channel (channel_step a b s m t n dest.channel exact.value dest.alpha exact.alpha exact.whole before.channel before.alpha source alpha holds.channel holds.alpha);
    alpha = rw spends.alpha (alpha_spends a b t n dest.alpha exact.alpha exact.whole before.alpha alpha fits holds.alpha);
  }

-- what becomes of both by an effect
step_holds : (effect : ChannelEffect) (fine max : ℕ) (budget : Budget) (dest : Rounded) (exact : Exact) → IsProduct fine max (channel_product max) → InRange max effect
    → Holds fine max budget dest exact → Holds fine max (budget_step budget effect) (rounded_step max dest effect) (exact_step max exact effect)
step_holds (Replaced s sa) fine max budget dest exact laws fit holds = record {
  whole = omega arith;
  channel = record { small = fit.0; proper = omega (arith, fit.0); close = omega arith };
  alpha = record { small = fit.1; proper = omega (arith, fit.1); close = omega arith };
}
step_holds (Composited op s sa) fine max budget dest exact laws fit holds =
    let a = (row op).source in
    let b = (row op).dest in
    let t = max in
    let spends = spends op (product_count op) budget in
    rw (term_is a max s dest.alpha, term_is b max dest.channel sa, term_is a max sa dest.alpha, term_is b max dest.alpha sa)
    (composite_holds fine 0 t t (channel_product max) laws a b s s sa sa budget _ dest exact laws.positive (from_itself fine t s fit.0) (from_itself fine t sa fit.1) (operators_fit op sa t fit.1) spends holds)
step_holds (Matted op matte s sa) fine max budget dest exact laws fit holds =
    let a = (row op).source in
    let b = (row op).dest in
    let t = max in
    let p = channel_product max in
    let source = from_product fine t s matte p laws fit.1 fit.0 in
    let alpha = from_product fine t sa matte p laws fit.2 fit.0 in
    let spends = spends op (matted_count op) budget in
    rw (term_is a max (p s matte) dest.alpha, term_is b max dest.channel (p sa matte), term_is a max (p sa matte) dest.alpha, term_is b max dest.alpha (p sa matte))
    (composite_holds fine 1 t (t * t) p laws a b (p s matte) (s * matte) (p sa matte) (sa * matte) budget _ dest exact (mul-pos laws.positive laws.positive) source alpha (operators_fit op (sa * matte) (t * t) alpha.proper) spends holds)

-- .. and by a list of them
pub run_holds : (effects : List ChannelEffect) (fine max : ℕ) (budget : Budget) (dest : Rounded) (exact : Exact) → IsProduct fine max (channel_product max) → All (InRange max) effects
    → Holds fine max budget dest exact → Holds fine max (fold budget_step budget effects) (fold (rounded_step max) dest effects) (fold (exact_step max) exact effects)
run_holds [] fine max budget dest exact laws fit holds = holds
run_holds (effect ∷ effects) fine max budget dest exact laws fit holds =
    let head = All-head (InRange max) effect effects fit in
    let tail = All-tail (InRange max) effect effects fit in
    run_holds effects fine max (budget_step budget effect) (rounded_step max dest effect) (exact_step max exact effect) laws tail (step_holds effect fine max budget dest exact laws head holds)
