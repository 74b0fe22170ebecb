use Rattle.std.proofs.Common.{arith, map}
use Rattle.std.proofs.lemmas.List.{length-map}
use Rattle.pix_el.proofs.MaskedBlocks.{made_one}
use Rattle.pix_el.proofs.planes.alpha_x16.AlphaX16Block.faded.Goals as goal

pub returns : goal.returns
returns g c =
    let s = g.S.Stored.reads in
    made_one g.P.Pixel.layout g.O.Blend.op 16 (g.P.Chan.Channel.number c.args.alpha) _ _ (map s c.args.src.now) _ _
    (omega (arith, length-map c.args.src.now s, c.requires.src_size)) c.composite_sixteen.ensures c.masked_channels-colors.ensures c.sixteen_pixels.ensures
