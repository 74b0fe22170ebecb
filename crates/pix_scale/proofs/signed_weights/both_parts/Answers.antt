use Rattle.std.proofs.Common.{◌≡◌, ℕ, ◌+◌, ◌-◌, ◌*◌, length, arith, refl, ap, ◌∙◌}
use Rattle.pix_scale.specs.Axis.{rounded_part}
use Rattle.pix_scale.specs.Signed.{raised, adds, takes}
use Rattle.pix_scale.proofs.Terms.{made_none, made_more}
use Rattle.pix_scale.proofs.SignedWeights.{Step, step_of}
use Rattle.pix_scale.proofs.signed_weights.both_parts.Goals as goal

pub loop-k-init : goal.loop-k-init
loop-k-init c = record { plus = made_none _ _; minus = made_none _ _; added = refl; taken = refl }

pub overflow_add-more : goal.overflow_add-more
overflow_add-more c =
    let f : ℕ → ℕ = adds c.args.filter c.args.n c.args.m c.args.i c.args.first in
    let value = c.raised-value.ensures.value ∙ ap (raised c.args.filter) c.apart.ensures.value in
    let s : Step f c.args.whole (length c.args.plus.now) c.loop-k.k c.loop-k.added c.saturating_sub.result =
    step_of f c.args.whole (length c.args.plus.now) c.loop-k.k c.loop-k.added c.saturating_sub.result (omega arith) c.loop-k.invariant.added (c.saturating_sub.ensures ∙ ap (λ z. z - 16777216) value) in
    record { fits = omega (arith, s.fits, c.requires.added) }

pub mark-requires-clause-part : goal.mark-requires-clause-part
mark-requires-clause-part c =
    let f : ℕ → ℕ = adds c.args.filter c.args.n c.args.m c.args.i c.args.first in
    let value = c.raised-value.ensures.value ∙ ap (raised c.args.filter) c.apart.ensures.value in
    let s : Step f c.args.whole (length c.args.plus.now) c.loop-k.k c.loop-k.added c.saturating_sub.result =
    step_of f c.args.whole (length c.args.plus.now) c.loop-k.k c.loop-k.added c.saturating_sub.result (omega arith) c.loop-k.invariant.added (c.saturating_sub.ensures ∙ ap (λ z. z - 16777216) value) in
    omega (arith, s.fits, c.requires.added)

pub mark-requires-in-loop-k-clause-part : goal.mark-requires-in-loop-k-clause-part
mark-requires-in-loop-k-clause-part c =
    let f : ℕ → ℕ = adds c.args.filter c.args.n c.args.m c.args.i c.args.first in
    let value = c.raised-value.ensures.value ∙ ap (raised c.args.filter) c.apart.ensures.value in
    let s : Step f c.args.whole (length c.args.plus.now) c.loop-k.k c.loop-k.added c.saturating_sub.result =
    step_of f c.args.whole (length c.args.plus.now) c.loop-k.k c.loop-k.added c.saturating_sub.result (omega arith) c.loop-k.invariant.added (c.saturating_sub.ensures ∙ ap (λ z. z - 16777216) value) in
    omega (arith, s.fits, c.requires.added)

pub overflow_cast-plus : goal.overflow_cast-plus
overflow_cast-plus c =
    let f : ℕ → ℕ = adds c.args.filter c.args.n c.args.m c.args.i c.args.first in
    let value = c.raised-value.ensures.value ∙ ap (raised c.args.filter) c.apart.ensures.value in
    let s : Step f c.args.whole (length c.args.plus.now) c.loop-k.k c.loop-k.added c.saturating_sub.result =
    step_of f c.args.whole (length c.args.plus.now) c.loop-k.k c.loop-k.added c.saturating_sub.result (omega arith) c.loop-k.invariant.added (c.saturating_sub.ensures ∙ ap (λ z. z - 16777216) value) in
    record { fits = omega (arith, s.small, c.mark.ensures, c.requires.plus_fits) }

pub overflow_add-less : goal.overflow_add-less
overflow_add-less c =
    let g : ℕ → ℕ = takes c.args.filter c.args.n c.args.m c.args.i c.args.first in
    let value_of = c.raised-value.ensures.value ∙ ap (raised c.args.filter) c.apart.ensures.value in
    let t : Step g c.args.whole (length c.args.plus.now) c.loop-k.k c.loop-k.taken c.saturating_sub-in-loop-k.result =
    step_of g c.args.whole (length c.args.plus.now) c.loop-k.k c.loop-k.taken c.saturating_sub-in-loop-k.result (omega arith) c.loop-k.invariant.taken (c.saturating_sub-in-loop-k.ensures ∙ ap (λ z. 16777216 - z) value_of) in
    record { fits = omega (arith, t.fits, c.requires.taken) }

pub mark-requires-in-loop-k-2-clause-part : goal.mark-requires-in-loop-k-2-clause-part
mark-requires-in-loop-k-2-clause-part c =
    let g : ℕ → ℕ = takes c.args.filter c.args.n c.args.m c.args.i c.args.first in
    let value_of = c.raised-value.ensures.value ∙ ap (raised c.args.filter) c.apart.ensures.value in
    let t : Step g c.args.whole (length c.args.plus.now) c.loop-k.k c.loop-k.taken c.saturating_sub-in-loop-k.result =
    step_of g c.args.whole (length c.args.plus.now) c.loop-k.k c.loop-k.taken c.saturating_sub-in-loop-k.result (omega arith) c.loop-k.invariant.taken (c.saturating_sub-in-loop-k.ensures ∙ ap (λ z. 16777216 - z) value_of) in
    omega (arith, t.fits, c.requires.taken)

pub mark-requires-in-loop-k-3-clause-part : goal.mark-requires-in-loop-k-3-clause-part
mark-requires-in-loop-k-3-clause-part c =
    let g : ℕ → ℕ = takes c.args.filter c.args.n c.args.m c.args.i c.args.first in
    let value_of = c.raised-value.ensures.value ∙ ap (raised c.args.filter) c.apart.ensures.value in
    let t : Step g c.args.whole (length c.args.plus.now) c.loop-k.k c.loop-k.taken c.saturating_sub-in-loop-k.result =
    step_of g c.args.whole (length c.args.plus.now) c.loop-k.k c.loop-k.taken c.saturating_sub-in-loop-k.result (omega arith) c.loop-k.invariant.taken (c.saturating_sub-in-loop-k.ensures ∙ ap (λ z. 16777216 - z) value_of) in
    omega (arith, t.fits, c.requires.taken)

pub overflow_cast-minus : goal.overflow_cast-minus
overflow_cast-minus c =
    let g : ℕ → ℕ = takes c.args.filter c.args.n c.args.m c.args.i c.args.first in
    let value_of = c.raised-value.ensures.value ∙ ap (raised c.args.filter) c.apart.ensures.value in
    let t : Step g c.args.whole (length c.args.plus.now) c.loop-k.k c.loop-k.taken c.saturating_sub-in-loop-k.result =
    step_of g c.args.whole (length c.args.plus.now) c.loop-k.k c.loop-k.taken c.saturating_sub-in-loop-k.result (omega arith) c.loop-k.invariant.taken (c.saturating_sub-in-loop-k.ensures ∙ ap (λ z. 16777216 - z) value_of) in
    record { fits = omega (arith, t.small, c.mark-in-loop-k-2.ensures, c.requires.minus_fits) }

pub loop-k-preserved : goal.loop-k-preserved
loop-k-preserved c =
    let f : ℕ → ℕ = adds c.args.filter c.args.n c.args.m c.args.i c.args.first in
    let value = c.raised-value.ensures.value ∙ ap (raised c.args.filter) c.apart.ensures.value in
    let s : Step f c.args.whole (length c.args.plus.now) c.loop-k.k c.loop-k.added c.saturating_sub.result =
    step_of f c.args.whole (length c.args.plus.now) c.loop-k.k c.loop-k.added c.saturating_sub.result (omega arith) c.loop-k.invariant.added (c.saturating_sub.ensures ∙ ap (λ z. z - 16777216) value) in
    let g : ℕ → ℕ = takes c.args.filter c.args.n c.args.m c.args.i c.args.first in
    let value_of = c.raised-value.ensures.value ∙ ap (raised c.args.filter) c.apart.ensures.value in
    let t : Step g c.args.whole (length c.args.plus.now) c.loop-k.k c.loop-k.taken c.saturating_sub-in-loop-k.result =
    step_of g c.args.whole (length c.args.plus.now) c.loop-k.k c.loop-k.taken c.saturating_sub-in-loop-k.result (omega arith) c.loop-k.invariant.taken (c.saturating_sub-in-loop-k.ensures ∙ ap (λ z. 16777216 - z) value_of) in
    let p : c.mark.result - c.mark-in-loop-k.result ≡ rounded_part (c.loop-k.added + c.saturating_sub.result) (2 * c.args.whole) - rounded_part c.loop-k.added (2 * c.args.whole) =
    ap (λ z. z - c.mark-in-loop-k.result) c.mark.ensures ∙ ap (λ z. rounded_part (c.loop-k.added + c.saturating_sub.result) (2 * c.args.whole) - z) c.mark-in-loop-k.ensures in
    let q : c.mark-in-loop-k-2.result - c.mark-in-loop-k-3.result ≡ rounded_part (c.loop-k.taken + c.saturating_sub-in-loop-k.result) (2 * c.args.whole) - rounded_part c.loop-k.taken (2 * c.args.whole) =
    ap (λ z. z - c.mark-in-loop-k-3.result) c.mark-in-loop-k-2.ensures ∙ ap (λ z. rounded_part (c.loop-k.taken + c.saturating_sub-in-loop-k.result) (2 * c.args.whole) - z) c.mark-in-loop-k-3.ensures in
    record {
      plus = made_more _ _ _ _ (omega arith) c.loop-k.invariant.plus (p ∙ s.part);
      minus = made_more _ _ _ _ (omega arith) c.loop-k.invariant.minus (q ∙ t.part);
      added = s.more;
      taken = t.more;
    }

pub returns : goal.returns
returns c = record { plus = λ k lt. c.loop-k.invariant.plus.at k (omega arith); minus = λ k lt. c.loop-k.invariant.minus.at k (omega arith) }
