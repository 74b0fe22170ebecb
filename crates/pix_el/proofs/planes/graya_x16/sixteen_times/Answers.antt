use Rattle.std.proofs.Common.{◌∙◌, ap}
use Rattle.pix_el.specs.Planes.{by_twos}
use Rattle.pix_el.proofs.TwoPixels.{color_sixteen_times}
use Rattle.pix_el.proofs.planes.graya_x16.sixteen_times.Goals as goal

pub returns : goal.returns
returns g c =
    ap by_twos c.in_turn.ensures
    ∙ color_sixteen_times g.P.Chan.Channel.number c.two_channels-a.result.0 c.two_channels-a.result.1 (g.P.Pixel.numbers c.args.clr.now) c.two_channels-a.ensures
