-- Of `faded_blocks`: that a block lies within both slices, and that the invariant of its loop over
-- `i` holds at first and stays.
use Rattle.std.proofs.Common.{◌≤◌, ◌*◌, List, ℕ, arith, rules, map, length}
use borrow.Author.Rules.{scaled_fits≤}
use Rattle.pix_el.specs.PixelComposite.{matted_composite}
use Rattle.pix_chan.proofs.Slices.{next_mapped_block}
use Rattle.pix_el.proofs.Blocks.{block_ends, none_yet}
use Rattle.pix_el.proofs.planes.block.faded_blocks.Goals as goal

pub loop-i-init : goal.loop-i-init
loop-i-init g c =
    let matte = g.P.Chan.Channel.number c.args.alpha in
    none_yet (λ (d s : List ℕ). matted_composite g.P.Pixel.layout g.O.Blend.op matte s d) c.SIZE-size.result (map g.D.Stored.reads c.args.dst.now) (map g.S.Stored.reads c.args.src.now)

pub offset_bounds-dst-at : goal.offset_bounds-dst-at
offset_bounds-dst-at g c =
    let ends = block_ends c.args.count c.SIZE-size.result c.loop-i.i c.loop-i-test.true in
    let fits : c.SIZE-size.result * c.loop-i.i ≤ length c.loop-i.dst = omega (arith, ends, c.requires.dst_has) in
    scaled_fits≤ _ (length c.loop-i.dst) _ fits (search rules)

pub loop-i-preserved : goal.loop-i-preserved
loop-i-preserved g c =
    let matte = g.P.Chan.Channel.number c.args.alpha in
    let ends = block_ends c.args.count c.SIZE-size.result c.loop-i.i c.loop-i-test.true in
    next_mapped_block g.D.Stored.reads (λ (d s : List ℕ). matted_composite g.P.Pixel.layout g.O.Blend.op matte s d) g.S.Stored.reads c.SIZE-size.result c.loop-i.i c.args.dst.now c.loop-i.dst c.faded.new.dst c.args.src.now
    c.loop-i.invariant (omega (arith, ends, c.requires.dst_has)) (omega (arith, ends, c.requires.src_has))
    c.faded.ensures

pub nonzero_div-i-end : goal.nonzero_div-i-end
nonzero_div-i-end g c = omega (arith, c.SIZE-size.ensures, g.B.Block.some)

pub nonzero_div-result : goal.nonzero_div-result
nonzero_div-result g c = omega (arith, c.SIZE-size.ensures, g.B.Block.some)
