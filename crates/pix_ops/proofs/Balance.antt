-- With premultiplied sources the distances of a channel and of its alpha keep each other small.
use Rattle.std.specs.Prelude.{All, fold}
use Rattle.std.proofs.Common.{◌≡◌, ℕ, ◌+◌, ◌*◌, ◌<◌, ◌≤◌, List, [], ◌∷◌, arith, mul-pos, mul-le-mul_left, mul-le-mul_right}
use Rattle.std.proofs.lemmas.List.Elements.{All-head, All-tail}
use Rattle.std.proofs.lemmas.List.Sums.{sum_by-cons}
use Rattle.pix_chan.specs.Product.{channel_product, IsProduct}
use Rattle.pix_ops.specs.Operators.{Coefficient, row, count_by, reads}
use Rattle.pix_ops.specs.ExactComposite.{weight, Within}
use Rattle.pix_ops.specs.ExactRun.{ChannelEffect, Replaced, Composited, Matted, InRange, Rounded, rounded_step, Exact, exact_step, effect_count, doubled_counts, HasPremultipliedSource}
use Rattle.pix_ops.proofs.Within.{within_chain, within_cut}
use Rattle.pix_ops.proofs.Terms.{term_is}
use Rattle.pix_ops.proofs.Near.{IsFrom, from_itself, from_product}
use Rattle.pix_ops.proofs.ExactSteps.{exact_by, exact_times, weight_below, channel_moves, Fits, operators_fit, alpha_moves}
use Rattle.pix_ops.proofs.RunSteps.{rounded_by, composite_rounds}

-- Neither the channel nor the alpha passes the max, rounded or exact, and `off` and `alpha_off`
-- bound how far they are apart. Both together, and twice the alpha's, are at most v times the
-- whole.
pub record Balanced (fine max v : ℕ) (made : Rounded) (exact : Exact) : Type 0 where
  pub whole : 0 < exact.whole
  pub channel_small : made.channel ≤ max
  pub alpha_small : made.alpha ≤ max
  pub value_proper : exact.value ≤ max * exact.whole
  pub alpha_proper : exact.alpha ≤ max * exact.whole
  pub off : ℕ
  pub alpha_off : ℕ
  pub channel : Within off (made.channel * exact.whole * fine) (exact.value * fine)
  pub alpha : Within alpha_off (made.alpha * exact.whole * fine) (exact.alpha * fine)
  pub together : off + alpha_off ≤ v * exact.whole
  pub twice : 2 * alpha_off ≤ v * exact.whole

regrouped : (x f w fine y d : ℕ) → Within d (x * f * w * fine) y → Within d (x * (f * w) * fine) y
regrouped x f w fine y d p = omega arith

-- what becomes of both by a composite
composite_balanced : (fine k max f : ℕ) (product : ℕ → ℕ → ℕ) → IsProduct fine max product → (a b : Coefficient) (s m t n v : ℕ) (dest : Rounded) (exact : Exact)
    → 0 < f → IsFrom fine k max f s m → IsFrom fine k max f t n → m ≤ n → Fits a n (weight b f n) f → Balanced fine max v dest exact
    → Balanced fine max (v + 2 * count_by k a b)
    (record { channel = rounded_by product max a b s t dest.channel dest.alpha; alpha = rounded_by product max a b t t dest.alpha dest.alpha })
    (record { value = exact_by a b m n f (max * exact.whole) exact.value exact.alpha; alpha = exact_by a b n n f (max * exact.whole) exact.alpha exact.alpha; whole = f * exact.whole })
composite_balanced fine k max f product laws a b s m t n v dest exact lf source alpha lm fits holds =
    let w = exact.whole in
    let q = weight b f n in
    let e = max * w * fine in
    let small = mul-le-mul_right fine (mul-le-mul_right w holds.alpha_small) in
    let proper = mul-le-mul_right fine holds.alpha_proper in
    let rounds = composite_rounds fine k max f product laws a b s m t n dest.channel dest.alpha w source alpha holds.channel_small holds.alpha_small in
    let moves = channel_moves a b m n f e (dest.channel * w * fine) (dest.alpha * w * fine) (exact.value * fine) (exact.alpha * fine) holds.off holds.alpha_off small proper holds.channel holds.alpha in
    let alpha_rounds = composite_rounds fine k max f product laws a b t n t n dest.alpha dest.alpha w alpha alpha holds.alpha_small holds.alpha_small in
    let step = alpha_moves a n q f e (dest.alpha * w * fine) (exact.alpha * fine) holds.alpha_off alpha.proper (weight_below b f n alpha.proper) fits small proper holds.alpha in
    let channels = rw (← (exact_times a b (max * w) m n f exact.value exact.alpha fine holds.alpha_proper)) at (within_chain _ _ _ _ _ rounds moves) in
    let alphas = rw (← (exact_times a b (max * w) n n f exact.alpha exact.alpha fine holds.alpha_proper)) at (within_chain _ _ _ _ _ alpha_rounds (within_cut (f * e) _ _ _ step.moves)) in
    let balanced = step.balanced m holds.off (v * w) lm holds.together holds.twice in
    let c = count_by k a b in
    record {
      whole = mul-pos lf holds.whole;
      channel_small = omega arith;
      alpha_small = omega arith;
      value_proper = omega arith;
      alpha_proper = omega arith;
      off = c * f * w + (reads a * (m * holds.alpha_off) + holds.off * q);
      alpha_off = c * f * w + step.rate * holds.alpha_off;
      channel = regrouped _ f w fine _ _ channels;
      alpha = regrouped _ f w fine _ _ alphas;
      together = omega (arith, balanced);
      twice = omega (arith, mul-le-mul_right (2 * holds.alpha_off) step.small, mul-le-mul_left f holds.twice);
    }

-- what becomes of both by an effect
step_balanced : (effect : ChannelEffect) (fine max v : ℕ) (dest : Rounded) (exact : Exact) → IsProduct fine max (channel_product max) → InRange max effect → HasPremultipliedSource effect
    → Balanced fine max v dest exact → Balanced fine max (v + 2 * effect_count effect) (rounded_step max dest effect) (exact_step max exact effect)
step_balanced (Replaced s sa) fine max v dest exact laws fit premultiplied holds = record {
  whole = omega arith;
  channel_small = fit.0;
  alpha_small = fit.1;
  value_proper = omega (arith, fit.0);
  alpha_proper = omega (arith, fit.1);
  off = 0;
  alpha_off = 0;
  channel = omega arith;
  alpha = omega arith;
  together = omega arith;
  twice = omega arith;
}
step_balanced (Composited op s sa) fine max v dest exact laws fit premultiplied holds =
    let a = (row op).source in
    let b = (row op).dest in
    let t = max in
    rw (term_is a max s dest.alpha, term_is b max dest.channel sa, term_is a max sa dest.alpha, term_is b max dest.alpha sa)
    (composite_balanced fine 0 t t (channel_product max) laws a b s s sa sa v dest exact laws.positive (from_itself fine t s fit.0) (from_itself fine t sa fit.1) premultiplied (operators_fit op sa t fit.1) holds)
step_balanced (Matted op matte s sa) fine max v dest exact laws fit premultiplied holds =
    let a = (row op).source in
    let b = (row op).dest in
    let t = max in
    let p = channel_product max in
    let source = from_product fine t s matte p laws fit.1 fit.0 in
    let alpha = from_product fine t sa matte p laws fit.2 fit.0 in
    rw (term_is a max (p s matte) dest.alpha, term_is b max dest.channel (p sa matte), term_is a max (p sa matte) dest.alpha, term_is b max dest.alpha (p sa matte))
    (composite_balanced fine 1 t (t * t) p laws a b (p s matte) (s * matte) (p sa matte) (sa * matte) v dest exact (mul-pos laws.positive laws.positive) source alpha (mul-le-mul_right matte premultiplied) (operators_fit op (sa * matte) (t * t) alpha.proper) holds)

-- .. and by a list of them
pub run_balanced : (effects : List ChannelEffect) (fine max v : ℕ) (dest : Rounded) (exact : Exact) → IsProduct fine max (channel_product max) → All (InRange max) effects → All HasPremultipliedSource effects
    → Balanced fine max v dest exact → Balanced fine max (v + doubled_counts effects) (fold (rounded_step max) dest effects) (fold (exact_step max) exact effects)
run_balanced [] fine max v dest exact laws fit premultiplied holds =
    let same : v + doubled_counts [] ≡ v = omega arith in
    rw same holds
run_balanced (effect ∷ effects) fine max v dest exact laws fit premultiplied holds =
    let head = step_balanced effect fine max v dest exact laws (All-head (InRange max) effect effects fit) (All-head HasPremultipliedSource effect effects premultiplied) holds in
    let tail = run_balanced effects fine max (v + 2 * effect_count effect) (rounded_step max dest effect) (exact_step max exact effect) laws (All-tail (InRange max) effect effects fit) (All-tail HasPremultipliedSource effect effects premultiplied) head in
    let sums : v + 2 * effect_count effect + doubled_counts effects ≡ v + doubled_counts (effect ∷ effects) = omega (arith, sum_by-cons effect_count effect effects) in
    rw sums at tail
