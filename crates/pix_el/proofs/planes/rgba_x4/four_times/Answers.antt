use Rattle.pix_el.proofs.FourPixels.{color_four_times}
use Rattle.pix_el.proofs.planes.rgba_x4.four_times.Goals as goal

pub returns : goal.returns
returns g c = color_four_times g.P.Chan.Channel.number c.four_channels-a.result.0 c.four_channels-a.result.1 c.four_channels-a.result.2 c.four_channels-a.result.3 (g.P.Pixel.numbers c.args.clr.now) c.four_channels-a.ensures
