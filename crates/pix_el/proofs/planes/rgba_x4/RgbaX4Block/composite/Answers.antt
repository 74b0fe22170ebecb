use Rattle.pix_el.proofs.MaskedBlocks.{made_of}
use Rattle.pix_el.proofs.planes.rgba_x4.RgbaX4Block.composite.Goals as goal

pub returns : goal.returns
returns g c = made_of g.P.Pixel.layout g.O.Blend.op _ _ _ _ c.composite_four.ensures c.four_pixels.ensures
