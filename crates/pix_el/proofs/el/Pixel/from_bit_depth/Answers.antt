use Rattle.std.proofs.Common.{◌≤◌, ap}
use Rattle.pix_el.specs.Pixel.{Layout}
use Rattle.pix_el.proofs.Conversions.{made_of_depth, few_channels}
use Rattle.pix_el.proofs.el.Pixel.from_bit_depth.Goals as goal

pub returns : goal.returns
returns g c =
    let v = g.Self.Chan.Channel.number in
    let layout : Layout = g.Self.Pixel.layout in
    let few : layout.count ≤ 4 = few_channels layout _ g.met.Self.Pixel.laid_out g.met.Self.Model.ColorModel.few c.requires.few in
    made_of_depth g.P.Pixel.layout layout g.P.Chan.Channel.max g.Self.Chan.Channel.max (g.P.Pixel.numbers c.args.p) (g.Self.Pixel.numbers c.from_four.result)
    (v c.channel_at_depth-one.result) (v c.channel_at_depth-two.result) (v c.channel_at_depth-three.result) (v c.channel_at_depth-four.result)
    (ap (λ (l : Layout). l.max) g.met.P.Pixel.laid_out) (ap (λ (l : Layout). l.max) g.met.Self.Pixel.laid_out) few
    c.channel_at_depth-one.ensures c.channel_at_depth-two.ensures c.channel_at_depth-three.ensures c.channel_at_depth-four.ensures c.from_four.ensures

pub from_four-requires : goal.from_four-requires
from_four-requires g c = few_channels g.Self.Pixel.layout _ g.met.Self.Pixel.laid_out g.met.Self.Model.ColorModel.few c.requires.few
