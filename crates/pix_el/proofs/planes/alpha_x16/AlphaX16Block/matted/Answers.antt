use Rattle.std.proofs.Common.{arith, map}
use Rattle.std.proofs.lemmas.List.{length-map}
use Rattle.pix_el.specs.Planes.{coverage_of}
use Rattle.pix_el.proofs.OnePlane.{same_ones}
use Rattle.pix_el.proofs.MaskedBlocks.{made_matted}
use Rattle.pix_el.proofs.planes.alpha_x16.AlphaX16Block.matted.Goals as goal

pub returns : goal.returns
returns g c =
    let v = g.P.Chan.Channel.number in
    let values = c.matte_values.result in
    let color = g.P.Pixel.numbers c.args.clr.now in
    made_matted g.P.Pixel.layout g.O.Blend.op 16 (map v values) (map (coverage_of g.P.Chan.Channel.max g.M.Coverage.numbers) c.args.src.now) color _ _ _ _
    (omega (arith, length-map values v)) c.composite_sixteen.ensures c.masked_channels-colors.ensures (same_ones v c.one_channel.result color c.one_channel.ensures) c.matte_values.ensures
