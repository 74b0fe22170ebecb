-- Of `of`: that the sums fit, that the invariant of its loop over `i` holds at first and after each turn, and what it returns.
use Rattle.std.proofs.Common.{◌+◌, ◌*◌, ◌≤◌, get_or, arith, refl}
use Rattle.pix_table.specs.quantization.GrayLevels.{values, weights}
use Rattle.pix_table.proofs.lemmas.quantization.LevelLemmas.{all_summed, next_fits, one_summed, summed_none}
use Rattle.pix_table.proofs.quantization.gray_levels.LevelSums.of.Goals as goal

pub loop-i-init : goal.loop-i-init
loop-i-init c = summed_none (weights c.args.levels.now) (values c.args.levels.now)

pub overflow_add-more : goal.overflow_add-more
overflow_add-more c =
    let f = next_fits (weights c.args.levels.now) (values c.args.levels.now) c.args.levels.now.len c.loop-i.i c.requires c.loop-i-test.true in
    omega (arith, c.loop-i.invariant.counts c.loop-i.i (omega arith), f.counts)

pub overflow_add-sum : goal.overflow_add-sum
overflow_add-sum c =
    let f = next_fits (weights c.args.levels.now) (values c.args.levels.now) c.args.levels.now.len c.loop-i.i c.requires c.loop-i-test.true in
    let counts = c.args.levels.now.counts in
    let one : get_or counts c.loop-i.i 0 * c.from-value.result ≤ 255 * get_or counts c.loop-i.i 0 = rw c.from-value.ensures f.one in
    omega (arith, c.loop-i.invariant.sums c.loop-i.i (omega arith), f.counts, f.sum, one)

pub overflow_add-square : goal.overflow_add-square
overflow_add-square c =
    let f = next_fits (weights c.args.levels.now) (values c.args.levels.now) c.args.levels.now.len c.loop-i.i c.requires c.loop-i-test.true in
    let counts = c.args.levels.now.counts in
    let one : get_or counts c.loop-i.i 0 * (c.from-value.result * c.from-value.result) ≤ 65025 * get_or counts c.loop-i.i 0 = rw c.from-value.ensures f.one_square in
    omega (arith, c.loop-i.invariant.squares c.loop-i.i (omega arith), f.counts, f.squares, one)

pub loop-i-preserved : goal.loop-i-preserved
loop-i-preserved c =
    one_summed (weights c.args.levels.now) (values c.args.levels.now) c.loop-i.counts c.loop-i.sums c.loop-i.squares c.loop-i.i (c.loop-i.i + 1) _ _ _ (omega arith)
    (omega (arith, c.requires.few)) refl (rw c.from-value.ensures refl) (rw c.from-value.ensures refl) c.loop-i.invariant

pub returns : goal.returns
returns c =
    all_summed (weights c.args.levels.now) (values c.args.levels.now) c.args.levels.now.len c.loop-i.i c.loop-i.counts c.loop-i.sums c.loop-i.squares _ (omega arith)
    refl refl refl c.requires c.loop-i.invariant
