use Rattle.pix_el.proofs.OnePlane.{same_ones}
use Rattle.pix_el.proofs.MaskedBlocks.{made_of}
use Rattle.pix_el.proofs.planes.alpha_x16.AlphaX16Block.color.Goals as goal

pub returns : goal.returns
returns g c = made_of g.P.Pixel.layout g.O.Blend.op _ _ _ _ c.composite_sixteen.ensures
    (same_ones g.P.Chan.Channel.number c.one_channel.result (g.P.Pixel.numbers c.args.clr.now) c.one_channel.ensures)
