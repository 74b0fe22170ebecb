-- Of `masked_blocks`: that a block lies within all slices, and that the invariant of its loop over
-- `i` holds at first and stays.
use Rattle.std.proofs.Common.{◌≤◌, ◌+◌, ◌-◌, ◌*◌, ◌∙◌, List, ℕ, arith, rules, ap, map, take, drop, length}
use borrow.Author.Rules.{scaled_fits≤}
use Rattle.std.specs.List.{zip}
use Rattle.pix_chan.specs.Runs.{over}
use Rattle.pix_el.specs.PixelComposite.{matted_composite}
use Rattle.pix_chan.proofs.Slices.{next_block}
use Rattle.pix_el.proofs.Blocks.{block_ends, none_yet}
use Rattle.pix_el.proofs.Masked.{part-zip, length-beside}
use Rattle.pix_el.specs.Planes.{coverage_of}
use Rattle.pix_el.proofs.planes.block.masked_blocks.Goals as goal

pub loop-i-init : goal.loop-i-init
loop-i-init g c =
    none_yet (λ (d : List ℕ) (t : ℕ × List ℕ). matted_composite g.P.Pixel.layout g.O.Blend.op t.0 t.1 d) c.SIZE-size.result (map g.D.Stored.reads c.args.dst.now)
    (zip (map (coverage_of g.P.Chan.Channel.max g.M.Coverage.numbers) c.args.mattes.now) (map g.S.Stored.reads c.args.src.now))

pub offset_bounds-dst-at : goal.offset_bounds-dst-at
offset_bounds-dst-at g c =
    let ends = block_ends c.args.count c.SIZE-size.result c.loop-i.i c.loop-i-test.true in
    let fits : c.SIZE-size.result * c.loop-i.i ≤ length c.loop-i.dst = omega (arith, ends, c.requires.dst_has) in
    scaled_fits≤ _ (length c.loop-i.dst) _ fits (search rules)

pub loop-i-preserved : goal.loop-i-preserved
loop-i-preserved g c =
    let n = g.S.Stored.reads in
    let value = (coverage_of g.P.Chan.Channel.max g.M.Coverage.numbers) in
    let made = λ (t : ℕ × List ℕ) (d : List ℕ). matted_composite g.P.Pixel.layout g.O.Blend.op t.0 t.1 d in
    let size = c.SIZE-size.result in
    let at : ℕ = size * c.loop-i.i in
    let k : ℕ = at + size - at in
    let mattes = c.args.mattes.now in
    let src = c.args.src.now in
    let ends = block_ends c.args.count size c.loop-i.i c.loop-i-test.true in
    next_block g.D.Stored.reads (λ d t. made t d) size c.loop-i.i c.args.dst.now c.loop-i.dst c.masked.new.dst (zip (map value mattes) (map n src))
    c.loop-i.invariant (omega (arith, ends, c.requires.dst_has)) (omega (arith, ends, c.requires.src_has, c.requires.mattes_have, length-beside value n mattes src))
    (c.masked.ensures ∙ ap (λ (l : List (ℕ × List ℕ)). over made l (map g.D.Stored.reads (take k (drop at c.loop-i.dst)))) (part-zip value n at k mattes src))

pub nonzero_div-i-end : goal.nonzero_div-i-end
nonzero_div-i-end g c = omega (arith, c.SIZE-size.ensures, g.B.Block.some)

pub nonzero_div-result : goal.nonzero_div-result
nonzero_div-result g c = omega (arith, c.SIZE-size.ensures, g.B.Block.some)
