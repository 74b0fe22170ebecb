use Rattle.std.proofs.Common.{◌∙◌, ap, sym, arith, List, ℕ}
use Rattle.std.proofs.lemmas.Simd.{map-map}
use Rattle.pix_el.specs.Conversion.{converted}
use Rattle.pix_el.proofs.FourPlanes.{mapped4}
use Rattle.pix_el.proofs.conversion.channelwise.four_converted.Goals as goal

pub returns : goal.returns
returns g c =
    let made = converted g.P.Pixel.format g.P.Gamma.Gamma-2.mode g.D.Pixel.format g.D.Gamma.Gamma.mode in
    let f : g.row.P.Denot → List ℕ = λ p. made (g.P.Pixel.numbers p) in
    mapped4 f c.args.p.now c.index-p-0.result c.index-p-1.result c.index-p-2.result c.index-p-3.result (omega arith)
    (c.convert.ensures ∙ ap f c.index-p-0.is) (c.convert-2.ensures ∙ ap f c.index-p-1.is)
    (c.convert-3.ensures ∙ ap f c.index-p-2.is) (c.convert-4.ensures ∙ ap f c.index-p-3.is)
    ∙ sym (map-map made g.P.Pixel.numbers c.args.p.now)
