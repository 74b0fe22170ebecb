use Rattle.std.proofs.Common.{◌∙◌, arith, map, take, drop}
use Rattle.std.proofs.lemmas.List.{length-map, length-take-le}
use Rattle.pix_el.specs.PixelComposite.{pixel_composite}
use Rattle.pix_el.proofs.MaskedBlocks.{made_of}
use Rattle.pix_el.proofs.Halves.{halves_made, map-halves}
use Rattle.pix_el.proofs.planes.rgba_x16.RgbaX16Block.composite.Goals as goal

pub returns : goal.returns
returns g c =
    let layout = g.P.Pixel.layout in
    let op = g.O.Blend.op in
    let n = g.S.Stored.reads in
    let src = c.args.src.now in
    halves_made g.D.Stored.reads (pixel_composite layout op) 8 (map n (take 8 src)) (map n (take 8 (drop 8 src))) (map n src) c.args.dst.now c.composite_eight.new.dst c.composite_eight-2.new.dst
    c.requires.size (length-map (take 8 src) n ∙ length-take-le 8 src (omega (arith, c.requires.src_size))) (map-halves n 8 src c.requires.src_size)
    (made_of layout op _ _ _ _ c.composite_eight.ensures c.eight_pixels.ensures)
    (made_of layout op _ _ _ _ c.composite_eight-2.ensures c.eight_pixels-2.ensures)
