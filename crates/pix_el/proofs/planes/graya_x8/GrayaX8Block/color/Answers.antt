use Rattle.pix_el.proofs.MaskedBlocks.{made_of}
use Rattle.pix_el.proofs.planes.graya_x8.GrayaX8Block.color.Goals as goal

pub returns : goal.returns
returns g c = made_of g.P.Pixel.layout g.O.Blend.op _ _ _ _ c.composite_eight.ensures c.eight_times.ensures
