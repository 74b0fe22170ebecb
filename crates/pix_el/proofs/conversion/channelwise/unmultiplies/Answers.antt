-- Of `unmultiplies`: the clause `steps`.
use Rattle.std.proofs.Common.{◌≡◌, ◌∙◌, sym, ap}
use Rattle.pix_el.specs.Pixel.{Layout}
use Rattle.pix_el.proofs.Models.{placed_by_row}
use Rattle.pix_el.proofs.Unmultiplied.{converted_unmultiplied}
use Rattle.pix_el.proofs.conversion.channelwise.unmultiplies.Goals as goal

pub returns-clause-steps : goal.returns-clause-steps
returns-clause-steps g c = λ is p.
    let has = c.divides_alone.ensures in
    let laid = g.met.D.Pixel.laid_out in
    let placed = placed_by_row g.D.Model.ColorModel.model _ g.met.D.Model.ColorModel.stands in
    let alpha : g.D.Model.ColorModel.ALPHA ≡ 3 = sym (ap (λ (l : Layout). l.alpha) laid) ∙ has.alpha is in
    let start : g.D.Model.ColorModel.LINEAR.start ≡ 0 = placed.linear_next ∙ sym (ap (λ (l : Layout). l.hues.end) laid) ∙ has.no_hue is in
    converted_unmultiplied _ _ _ _ g.P.Gamma.Gamma-2.mode g.D.Gamma.Gamma.mode g.P.Pixel.layout g.D.Pixel.layout p
    g.met.P.Pixel.formatted g.met.D.Pixel.formatted g.met.P.Pixel.laid_out laid (has.model is)
    (g.met.P.Alpha.Alpha.tabled ∙ has.premultiplied is) (g.met.D.Alpha.Alpha.tabled ∙ has.straight is)
    (g.met.P.Gamma.Gamma-2.tabled ∙ has.from_linear is) (g.met.D.Gamma.Gamma.tabled ∙ has.linear is)
    (sym (ap (λ (l : Layout). l.count) laid) ∙ has.count is) alpha start (placed.alpha_last ∙ alpha)
