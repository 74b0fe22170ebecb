-- Of `convert_four`: the pixels whose depth alone changes.
use Rattle.std.proofs.Common.{◌≡◌, ◌∙◌, sym, map, List, ℕ}
use Rattle.pix_el.specs.Conversion.{of_depth, converted}
use Rattle.pix_el.proofs.Conversions.{map_alike, converted_of_depth}
use Rattle.pix_el.proofs.conversion.channelwise.convert_four.Goals as goal

pub returns-then-changes_depth : goal.returns-then-changes_depth
returns-then-changes_depth g c =
    let is = c.if-changes_depth.true in
    let has = c.changes_depth.ensures in
    let made = of_depth g.P.Pixel.layout g.D.Pixel.layout in
    let convert = converted g.P.Pixel.format g.P.Gamma.Gamma-2.mode g.D.Pixel.format g.D.Gamma.Gamma.mode in
    let laid = g.met.D.Pixel.laid_out in
    let same : (p : List ℕ) → made p ≡ convert p =
    λ p. sym (converted_of_depth _ _ _ _ g.P.Gamma.Gamma-2.mode g.D.Gamma.Gamma.mode g.P.Pixel.layout g.D.Pixel.layout p
    g.met.P.Pixel.formatted g.met.D.Pixel.formatted g.met.P.Pixel.laid_out laid (has.model is)
    (g.met.P.Alpha.Alpha.tabled ∙ has.alpha is ∙ sym g.met.D.Alpha.Alpha.tabled)
    (g.met.P.Gamma.Gamma-2.tabled ∙ has.gamma is ∙ sym g.met.D.Gamma.Gamma.tabled)) in
    c.deepen_four.ensures ∙ map_alike made convert same (map g.P.Pixel.numbers c.args.src.now)
