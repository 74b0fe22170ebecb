use Rattle.std.proofs.Common.{arith, map, refl, replicate}
use Rattle.std.proofs.lemmas.List.{length-map}
use Rattle.pix_chan.specs.Runs.{over}
use Rattle.pix_el.specs.PixelComposite.{matted_color}
use Rattle.pix_el.proofs.MaskedBlocks.{made_one}
use Rattle.pix_el.proofs.planes.planes_x16.PlanesX16Block.faded.Goals as goal

pub returns : goal.returns
returns g c =
    let s = g.S.Stored.reads in
    let a = g.P.Chan.Channel.number c.args.alpha in
    let ss = map s c.args.src.now in
    let by = over (matted_color g.P.Pixel.layout) (replicate 16 a) ss in
    made_one g.P.Pixel.layout g.O.Blend.op 16 a by ss ss _ _
    (omega (arith, length-map c.args.src.now s, c.requires.src_size))
    (c.composite_sixteen.ensures by (c.masked_channels-one.ensures ss c.planes-a.ensures)) refl refl
