use Rattle.std.proofs.Common.{arith, map, refl, replicate}
use Rattle.std.proofs.lemmas.List.{length-map}
use Rattle.pix_chan.specs.Runs.{over}
use Rattle.pix_el.specs.Planes.{coverage_of}
use Rattle.pix_el.specs.PixelComposite.{matted_color}
use Rattle.pix_el.proofs.FourPlanes.{color_are_planes}
use Rattle.pix_el.proofs.MaskedBlocks.{made_matted}
use Rattle.pix_el.proofs.planes.planes_x16.PlanesX16Block.matted.Goals as goal

pub returns : goal.returns
returns g c =
    let v = g.P.Chan.Channel.number in
    let values = c.matte_values-mattes.result in
    let color = g.P.Pixel.numbers c.args.clr.now in
    let colors = replicate 16 color in
    let by = over (matted_color g.P.Pixel.layout) (map v values) colors in
    let each = c.four_channels-a.result in
    made_matted g.P.Pixel.layout g.O.Blend.op 16 (map v values) (map (coverage_of g.P.Chan.Channel.max g.M.Coverage.numbers) c.args.src.now) color by colors _ _
    (omega (arith, length-map values v))
    (c.composite_sixteen.ensures by (c.masked_channels-one.ensures colors (color_are_planes g.P.Chan.Channel.max v each.0 each.1 each.2 each.3 color c.four_channels-a.ensures)))
    refl refl c.matte_values-mattes.ensures
