-- Of `color_blocks`: that a block lies within the slice, and that the invariant of its loop over
-- `i` holds at first and stays.
use Rattle.std.proofs.Common.{◌≤◌, ◌*◌, arith, rules, map, length, replicate}
use borrow.Author.Rules.{scaled_fits≤}
use Rattle.pix_el.specs.PixelComposite.{pixel_composite}
use Rattle.pix_el.proofs.Blocks.{block_ends, none_yet, next_color_block}
use Rattle.pix_el.proofs.planes.block.color_blocks.Goals as goal

pub loop-i-init : goal.loop-i-init
loop-i-init g c =
    let v = g.P.Pixel.numbers in
    none_yet (λ d s. pixel_composite g.P.Pixel.layout g.O.Blend.op s d) c.SIZE-size.result (map g.D.Stored.reads c.args.dst.now) (replicate (length c.args.dst.now) (v c.args.clr.now))

pub offset_bounds-dst-at : goal.offset_bounds-dst-at
offset_bounds-dst-at g c =
    let ends = block_ends (length c.args.dst.now) c.SIZE-size.result c.loop-i.i c.loop-i-test.true in
    let fits : c.SIZE-size.result * c.loop-i.i ≤ length c.loop-i.dst = omega (arith, ends) in
    scaled_fits≤ _ (length c.loop-i.dst) _ fits (search rules)

pub loop-i-preserved : goal.loop-i-preserved
loop-i-preserved g c =
    let v = g.P.Pixel.numbers in
    let size = c.SIZE-size.result in
    let ends = block_ends (length c.args.dst.now) size c.loop-i.i c.loop-i-test.true in
    next_color_block g.D.Stored.reads (λ d s. pixel_composite g.P.Pixel.layout g.O.Blend.op s d) g.B.Block.SIZE size c.loop-i.i (length c.args.dst.now) c.args.dst.now c.loop-i.dst c.color.new.dst (v c.args.clr.now)
    c.SIZE-size.ensures c.loop-i.invariant ends ends c.color.ensures

pub nonzero_div-i-end : goal.nonzero_div-i-end
nonzero_div-i-end g c = omega (arith, c.SIZE-size.ensures, g.B.Block.some)

pub nonzero_div-result : goal.nonzero_div-result
nonzero_div-result g c = omega (arith, c.SIZE-size.ensures, g.B.Block.some)
