use Rattle.std.proofs.Common.{arith, map}
use Rattle.std.proofs.lemmas.List.{length-map}
use Rattle.pix_el.specs.Planes.{coverage_of}
use Rattle.pix_el.proofs.MaskedBlocks.{made_masked}
use Rattle.pix_el.proofs.planes.rgba_x8.RgbaX8Block.masked.Goals as goal

pub returns : goal.returns
returns g c =
    let v = g.P.Chan.Channel.number in
    let s = g.S.Stored.reads in
    let values = c.eight_values.result in
    made_masked g.P.Pixel.layout g.O.Blend.op (map v values) (map (coverage_of g.P.Chan.Channel.max g.M.Coverage.numbers) c.args.mattes.now) _ _ (map s c.args.src.now) _ _
    (omega (arith, length-map values v, length-map c.args.src.now s, c.requires.src_size)) c.composite_eight.ensures c.masked_channels-colors.ensures c.eight_pixels.ensures c.eight_values.ensures
