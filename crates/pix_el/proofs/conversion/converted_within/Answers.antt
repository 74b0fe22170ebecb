use Rattle.std.proofs.Common.{◌≤◌, sym, ap, ◌∙◌}
use Rattle.pix_el.specs.Pixel.{Layout}
use Rattle.pix_el.specs.Conversion.{Format}
use Rattle.pix_el.proofs.Conversions.{made_within, few_channels}
use Rattle.pix_el.proofs.conversion.converted_within.Goals as goal

pub returns : goal.returns
returns g c =
    let v = g.D.Chan.Channel.number in
    let layout : Layout = g.D.Pixel.layout in
    let few : layout.count ≤ 4 = few_channels layout _ g.met.D.Pixel.laid_out g.met.D.Model.ColorModel.few c.requires.few in
    made_within g.P.Pixel.format g.D.Pixel.format g.P.Gamma.Gamma-2.mode g.D.Gamma.Gamma.mode g.P.Pixel.layout layout
    (g.P.Pixel.numbers c.args.p) (g.D.Pixel.numbers c.from_bit_depth-rescaled.result) (g.D.Pixel.numbers c.from_four.result)
    (v c.channel_reencoded-one.result) (v c.channel_reencoded-two.result) (v c.channel_reencoded-three.result) (v c.channel_reencoded-four.result)
    (ap (λ (f : Format). f.layout) g.met.P.Pixel.formatted ∙ sym g.met.P.Pixel.laid_out) (ap (λ (f : Format). f.layout) g.met.D.Pixel.formatted ∙ sym g.met.D.Pixel.laid_out)
    c.from_bit_depth-rescaled.ensures few c.channel_reencoded-one.ensures c.channel_reencoded-two.ensures c.channel_reencoded-three.ensures c.channel_reencoded-four.ensures c.from_four.ensures

pub from_four-requires : goal.from_four-requires
from_four-requires g c = few_channels g.D.Pixel.layout _ g.met.D.Pixel.laid_out g.met.D.Model.ColorModel.few c.requires.few
