use Rattle.std.proofs.Common.{replicate, refl}
use Rattle.pix_el.specs.PixelComposite.{pixel_composite}
use Rattle.pix_el.proofs.MaskedBlocks.{made_of}
use Rattle.pix_el.proofs.Halves.{halves_made}
use Rattle.pix_el.proofs.planes.rgba_x16.RgbaX16Block.color.Goals as goal

pub returns : goal.returns
returns g c =
    let layout = g.P.Pixel.layout in
    let op = g.O.Blend.op in
    let color = g.P.Pixel.numbers c.args.clr.now in
    halves_made g.D.Stored.reads (pixel_composite layout op) 8 (replicate 8 color) (replicate 8 color) (replicate 16 color) c.args.dst.now c.composite_eight.new.dst c.composite_eight-2.new.dst
    c.requires.size refl refl
    (made_of layout op _ _ _ _ c.composite_eight.ensures c.eight_times-first.ensures)
    (made_of layout op _ _ _ _ c.composite_eight-2.ensures c.eight_times-second.ensures)
