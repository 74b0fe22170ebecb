use Rattle.std.proofs.Common.{◌≡◌, ◌∙◌, ap, arith, length, map, take, drop}
use Rattle.std.proofs.lemmas.List.{length-drop, length-map, length-take-le}
use Rattle.pix_el.specs.PixelComposite.{matted_composite}
use Rattle.pix_el.proofs.Models.{placed_by_row}
use Rattle.pix_el.proofs.FourPlanes.{is_four_of, four_of}
use Rattle.pix_el.proofs.MaskedBlocks.{made_faded}
use Rattle.pix_el.proofs.Halves.{halves_made, map-halves}
use Rattle.pix_el.proofs.planes.rgba_x16.RgbaX16Block.faded.Goals as goal

pub returns : goal.returns
returns g c =
    let max = g.P.Chan.Channel.max in
    let v = g.P.Chan.Channel.number in
    let layout = g.P.Pixel.layout in
    let op = g.O.Blend.op in
    let n = g.S.Stored.reads in
    let a = v c.args.alpha in
    let src = c.args.src.now in
    let near = take 8 src in
    let far = take 8 (drop 8 src) in
    let first : length (map n near) ≡ 8 = length-map near n ∙ length-take-le 8 src (omega (arith, c.requires.src_size)) in
    let second : length (map n far) ≡ 8 = length-map far n ∙ length-take-le 8 (drop 8 src) (omega (arith, length-drop 8 src, c.requires.src_size)) in
    let one = c.eight_pixels-first.result in
    let two = c.eight_pixels-second.result in
    let four : layout ≡ four_of max 0 = is_four_of layout max g.P.Model.ColorModel.CIRCULAR g.P.Model.ColorModel.ALPHA g.met.P.Pixel.laid_out
    c.requires.suits.0 c.requires.suits.1 (placed_by_row g.P.Model.ColorModel.model _ g.met.P.Model.ColorModel.stands).hue_first ∙ ap (four_of max) c.requires.suits.2 in
    halves_made g.D.Stored.reads (matted_composite layout op a) 8 (map n near) (map n far) (map n src) c.args.dst.now c.composite_eight.new.dst c.composite_eight-2.new.dst
    c.requires.size first (map-halves n 8 src c.requires.src_size)
    (made_faded layout op max a (map v c.mul_run.new.dst) (map v one) (map n near) _ _ four (omega (arith, length-map one v)) first c.composite_eight.ensures c.mul_run.ensures c.eight_pixels-first.ensures)
    (made_faded layout op max a (map v c.mul_run-2.new.dst) (map v two) (map n far) _ _ four (omega (arith, length-map two v)) second c.composite_eight-2.ensures c.mul_run-2.ensures c.eight_pixels-second.ensures)
