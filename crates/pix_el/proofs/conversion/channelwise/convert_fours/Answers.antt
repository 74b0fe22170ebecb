-- Of `convert_fours`: the clause `pixels`, and that the invariant of its loop over `k` holds at
-- first and stays.
use Rattle.std.proofs.Common.{◌+◌, ◌*◌, ◌-◌, ◌∙◌, take, drop, sym, arith, map, List, ℕ}
use Rattle.std.proofs.lemmas.List.{length-map, length-take, length-drop}
use Rattle.pix_el.specs.Conversion.{converted}
use Rattle.pix_chan.proofs.Slices.{over-nil, next_mapped_block}
use Rattle.pix_el.proofs.Written.{over_written}
use Rattle.pix_el.proofs.conversion.channelwise.convert_fours.Goals as goal

pub loop-k-init : goal.loop-k-init
loop-k-init g c = sym (over-nil _ (map g.D.Pixel.numbers c.args.dst.now))

pub loop-k-preserved : goal.loop-k-preserved
loop-k-preserved g c =
    let n = g.D.Pixel.numbers in
    let m = g.P.Pixel.numbers in
    let made = converted g.P.Pixel.format g.P.Gamma.Gamma-2.mode g.D.Pixel.format g.D.Gamma.Gamma.mode in
    let f = λ (d s : List ℕ). made s in
    let at = 4 * c.loop-k.k in
    let k' = 4 * c.loop-k.k + 4 - 4 * c.loop-k.k in
    let part = take k' (drop at c.args.src.now) in
    let old = take k' (drop at c.loop-k.dst) in
    next_mapped_block n f m 4 c.loop-k.k c.args.dst.now c.loop-k.dst c.convert_four.new.dst c.args.src.now
    c.loop-k.invariant (omega arith) (omega arith)
    (c.convert_four.ensures ∙ sym (over_written made (map m part) (map n old)
    (omega (arith, length-map part m, length-map old n, length-take k' (drop at c.args.src.now), length-drop at c.args.src.now, length-take k' (drop at c.loop-k.dst), length-drop at c.loop-k.dst))))

pub returns-then-not-goes_by_fours-clause-pixels : goal.returns-then-not-goes_by_fours-clause-pixels
returns-then-not-goes_by_fours-clause-pixels g c = sym (over-nil _ (map g.D.Pixel.numbers c.args.dst.now))
