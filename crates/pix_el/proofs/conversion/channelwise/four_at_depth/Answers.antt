use Rattle.std.proofs.Common.{◌∙◌, ap, sym, arith, List, ℕ}
use Rattle.std.proofs.lemmas.Simd.{map-map}
use Rattle.pix_el.specs.Conversion.{of_depth}
use Rattle.pix_el.proofs.FourPlanes.{mapped4}
use Rattle.pix_el.proofs.conversion.channelwise.four_at_depth.Goals as goal

pub returns : goal.returns
returns g c =
    let made = of_depth g.P.Pixel.layout g.D.Pixel.layout in
    let f : g.row.P.Denot → List ℕ = λ p. made (g.P.Pixel.numbers p) in
    mapped4 f c.args.p.now c.index-p-0.result c.index-p-1.result c.index-p-2.result c.index-p-3.result (omega arith)
    (c.channels_at_depth-a.ensures ∙ ap f c.index-p-0.is) (c.channels_at_depth-e.ensures ∙ ap f c.index-p-1.is)
    (c.channels_at_depth-i.ensures ∙ ap f c.index-p-2.is) (c.channels_at_depth-m.ensures ∙ ap f c.index-p-3.is)
    ∙ sym (map-map made g.P.Pixel.numbers c.args.p.now)
