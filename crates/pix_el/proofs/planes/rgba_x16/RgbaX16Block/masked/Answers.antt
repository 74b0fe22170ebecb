use Rattle.std.proofs.Common.{◌≡◌, ◌∙◌, arith, length, map, take, drop}
use Rattle.std.specs.List.{zip}
use Rattle.std.proofs.lemmas.List.{length-drop, length-map, length-take-le}
use Rattle.pix_el.specs.PixelComposite.{matted_composite}
use Rattle.pix_el.specs.Planes.{coverage_of}
use Rattle.pix_el.proofs.MaskedBlocks.{made_masked}
use Rattle.pix_el.proofs.Halves.{halves_made, zip-halves}
use Rattle.pix_el.proofs.Masked.{length-beside}
use Rattle.pix_el.proofs.planes.rgba_x16.RgbaX16Block.masked.Goals as goal

pub returns : goal.returns
returns g c =
    let layout = g.P.Pixel.layout in
    let op = g.O.Blend.op in
    let n = g.S.Stored.reads in
    let number = g.P.Chan.Channel.number in
    let v = coverage_of g.P.Chan.Channel.max g.M.Coverage.numbers in
    let src = c.args.src.now in
    let by = c.args.mattes.now in
    let near = take 8 src in
    let far = take 8 (drop 8 src) in
    let one = c.eight_values.result in
    let two = c.eight_values-2.result in
    let first : length near ≡ 8 = length-take-le 8 src (omega (arith, c.requires.src_size)) in
    let second : length far ≡ 8 = length-take-le 8 (drop 8 src) (omega (arith, length-drop 8 src, c.requires.src_size)) in
    halves_made g.D.Stored.reads (λ t. matted_composite layout op t.0 t.1) 8
    (zip (map v (take 8 by)) (map n near)) (zip (map v (take 8 (drop 8 by))) (map n far)) (zip (map v by) (map n src))
    c.args.dst.now c.composite_eight.new.dst c.composite_eight-2.new.dst c.requires.size
    (length-beside v n (take 8 by) near ∙ omega (arith, first, length-take-le 8 by (omega (arith, c.requires.mattes_size))))
    (zip-halves v n 8 by src c.requires.mattes_size c.requires.src_size)
    (made_masked layout op (map number one) (map v (take 8 by)) _ _ (map n near) _ _ (omega (arith, length-map one number, length-map near n, first)) c.composite_eight.ensures c.masked_channels-first.ensures c.eight_pixels-pixels.ensures c.eight_values.ensures)
    (made_masked layout op (map number two) (map v (take 8 (drop 8 by))) _ _ (map n far) _ _ (omega (arith, length-map two number, length-map far n, second)) c.composite_eight-2.ensures c.masked_channels-second.ensures c.eight_pixels-others.ensures c.eight_values-2.ensures)
