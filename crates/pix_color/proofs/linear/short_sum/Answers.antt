use Rattle.std.specs.Prelude.{ℤ, pos, unsigned_abs, ◌*ℤ◌}
use Rattle.std.proofs.Common.{◌≡◌, ℕ, ◌<◌, w64, to_z, of_z, ◌+◌, ◌-◌, ◌*◌, ◌/◌, ◌∙◌, min, sym, ap, arith}
use Rattle.pix_color.proofs.ShortSums.{sum_is}
use Rattle.pix_color.proofs.Sums.{stays}
use Rattle.pix_color.proofs.linear.short_sum.Goals as goal

-- a weight as the code holds it
same : (w : ℤ) (n : ℕ) → unsigned_abs w < 9223372036854775808 → w *ℤ pos n ≡ to_z w64 (of_z w64 w) *ℤ pos n
same w n h = ap (λ (v : ℤ). v *ℤ pos n) (sym (stays w h))

pub returns : goal.returns
returns g c =
    let number = g.C.Channel.number in
    let top = g.C.Channel.max in
    let most : number c.MAX.result ≡ top = ap number c.MAX.ensures ∙ g.met.C.Channel.max_is_maximum in
    let whole : ℕ = c.args.whole in
    let times = λ (w : ℤ) (n : ℕ). w *ℤ pos n in
    let ratio = λ (sum : ℕ). (2 * sum + whole) / (2 * whole) in
    sum_is top whole c.parts-a.result.0 c.parts-a.result.1 c.parts-c.result.0 c.parts-c.result.1 c.parts-e.result.0 c.parts-e.result.1 c.parts-g.result.0 c.parts-g.result.1
    (number c.exact.result)
    (c.args.first.0 *ℤ pos (number c.args.first.1)) (c.args.second.0 *ℤ pos (number c.args.second.1)) (c.args.third.0 *ℤ pos (number c.args.third.1)) (c.args.offset *ℤ pos top)
    c.requires.positive
    (sym (ap (times c.args.first.0) c.units.ensures.value) ∙ same c.args.first.0 c.units.result (omega (arith, c.requires.first)) ∙ c.parts-a.ensures.value)
    (sym (ap (times c.args.second.0) c.units-2.ensures.value) ∙ same c.args.second.0 c.units-2.result (omega (arith, c.requires.second)) ∙ c.parts-c.ensures.value)
    (sym (ap (times c.args.third.0) c.units-3.ensures.value) ∙ same c.args.third.0 c.units-3.result (omega (arith, c.requires.third)) ∙ c.parts-e.ensures.value)
    (sym (ap (times c.args.offset) (c.units-4.ensures.value ∙ most)) ∙ same c.args.offset c.units-4.result (omega (arith, c.requires.offset)) ∙ c.parts-g.ensures.value)
    (c.exact.ensures ∙ c.from.ensures ∙ c.min.ensures ∙ ap (λ (k : ℕ). min (ratio k) 255) c.saturating_sub-sum.ensures
    ∙ ap (λ (m : ℕ). min (ratio (c.parts-a.result.0 + c.parts-c.result.0 + c.parts-e.result.0 + c.parts-g.result.0 - (c.parts-a.result.1 + c.parts-c.result.1 + c.parts-e.result.1 + c.parts-g.result.1))) m) (sym c.requires.narrow))
