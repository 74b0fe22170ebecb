use Rattle.std.proofs.Common.{arith, map, refl}
use Rattle.std.proofs.lemmas.List.{length-map}
use Rattle.pix_chan.specs.Runs.{over}
use Rattle.pix_el.specs.Planes.{coverage_of}
use Rattle.pix_el.specs.PixelComposite.{matted_color}
use Rattle.pix_el.proofs.MaskedBlocks.{made_masked}
use Rattle.pix_el.proofs.planes.planes_x16.PlanesX16Block.masked.Goals as goal

pub returns : goal.returns
returns g c =
    let v = g.P.Chan.Channel.number in
    let s = g.S.Stored.reads in
    let values = c.matte_values.result in
    let ss = map s c.args.src.now in
    let by = over (matted_color g.P.Pixel.layout) (map v values) ss in
    made_masked g.P.Pixel.layout g.O.Blend.op (map v values) (map (coverage_of g.P.Chan.Channel.max g.M.Coverage.numbers) c.args.mattes.now) by ss ss _ _
    (omega (arith, length-map values v, length-map c.args.src.now s, c.requires.src_size))
    (c.composite_sixteen.ensures by (c.masked_channels-one.ensures ss c.planes-a.ensures)) refl refl c.matte_values.ensures
