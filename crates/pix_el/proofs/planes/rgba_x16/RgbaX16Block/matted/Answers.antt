use Rattle.std.proofs.Common.{◌∙◌, arith, rules, map, sym, take, drop}
use Rattle.std.proofs.lemmas.List.{length-map, length-take-le}
use Rattle.pix_el.specs.PixelComposite.{matted_composite}
use Rattle.pix_el.specs.Planes.{coverage_of}
use Rattle.pix_el.proofs.MaskedBlocks.{made_matted}
use Rattle.pix_el.proofs.Halves.{halves_made, map-halves}
use Rattle.pix_el.proofs.planes.rgba_x16.RgbaX16Block.matted.Goals as goal

pub slice_bounds-eight_values-end : goal.slice_bounds-eight_values-end
slice_bounds-eight_values-end g c = sym (length-take-le 8 c.args.src.now (omega (arith, c.requires.src_size)))

pub eight_values-requires : goal.eight_values-requires
eight_values-requires g c = (search rules, length-take-le 8 c.args.src.now (omega (arith, c.requires.src_size)))

pub returns : goal.returns
returns g c =
    let layout = g.P.Pixel.layout in
    let op = g.O.Blend.op in
    let v = g.P.Chan.Channel.number in
    let n = coverage_of g.P.Chan.Channel.max g.M.Coverage.numbers in
    let color = g.P.Pixel.numbers c.args.clr.now in
    let src = c.args.src.now in
    let near = take 8 src in
    let far = take 8 (drop 8 src) in
    let one = c.eight_values.result in
    let two = c.eight_values-2.result in
    halves_made g.D.Stored.reads (λ m. matted_composite layout op m color) 8 (map n near) (map n far) (map n src) c.args.dst.now c.composite_eight.new.dst c.composite_eight-2.new.dst
    c.requires.size (length-map near n ∙ length-take-le 8 src (omega (arith, c.requires.src_size))) (map-halves n 8 src c.requires.src_size)
    (made_matted layout op 8 (map v one) (map n near) color _ _ _ _ (omega (arith, length-map one v)) c.composite_eight.ensures c.masked_channels-first.ensures c.eight_times.ensures c.eight_values.ensures)
    (made_matted layout op 8 (map v two) (map n far) color _ _ _ _ (omega (arith, length-map two v)) c.composite_eight-2.ensures c.masked_channels-second.ensures c.eight_times-2.ensures c.eight_values-2.ensures)
