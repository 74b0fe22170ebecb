use Rattle.std.proofs.Common.{arith, map}
use Rattle.std.proofs.lemmas.List.{length-map}
use Rattle.pix_el.specs.Planes.{coverage_of}
use Rattle.pix_el.proofs.MaskedBlocks.{made_matted}
use Rattle.pix_el.proofs.planes.rgba_x8.RgbaX8Block.matted.Goals as goal

pub returns : goal.returns
returns g c =
    let v = g.P.Chan.Channel.number in
    let values = c.eight_values.result in
    made_matted g.P.Pixel.layout g.O.Blend.op 8 (map v values) (map (coverage_of g.P.Chan.Channel.max g.M.Coverage.numbers) c.args.src.now) (g.P.Pixel.numbers c.args.clr.now) _ _ _ _
    (omega (arith, length-map values v)) c.composite_eight.ensures c.masked_channels-colors.ensures c.eight_times.ensures c.eight_values.ensures
