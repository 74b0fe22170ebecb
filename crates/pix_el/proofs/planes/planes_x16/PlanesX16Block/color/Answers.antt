use Rattle.std.proofs.Common.{replicate}
use Rattle.pix_el.proofs.FourPlanes.{color_are_planes}
use Rattle.pix_el.proofs.planes.planes_x16.PlanesX16Block.color.Goals as goal

pub returns : goal.returns
returns g c =
    let color = g.P.Pixel.numbers c.args.clr.now in
    c.composite_sixteen.ensures (replicate 16 color) (color_are_planes g.P.Chan.Channel.max g.P.Chan.Channel.number c.four_channels-a.result.0 c.four_channels-a.result.1 c.four_channels-a.result.2 c.four_channels-a.result.3 color c.four_channels-a.ensures)
