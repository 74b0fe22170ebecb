-- Of `Lists::next_near`: that the invariant of its loop over `red` holds at first and stays, and
-- what it tells at its end.
use Rattle.std.specs.Prelude.{slice_index}
use Rattle.std.proofs.Common.{◌<◌, ◌+◌, map, arith}
use Rattle.pix_table.specs.matching.Nearest as nearest
use Rattle.pix_table.specs.threshold.ColorBlocks.{Lies}
use Rattle.pix_palette.specs.Palette.{numbers}
use Rattle.pix_palette.specs.Finder.{AreFar, steps}
use Rattle.pix_palette.proofs.Cells.{both_far, fewer_far, next_red, none_near}
use Rattle.pix_palette.proofs.palette.lists.Lists.next_near.Goals as goal

pub loop-red-init : goal.loop-red-init
loop-red-init c = record {
  from = omega (arith, c.new-sought.ensures.from, c.requires.from);
  end = omega arith;
  far = λ k from below both. absurd (omega (arith, both.0.red_low, both.1));
}

pub loop-red-preserved : goal.loop-red-preserved
loop-red-preserved c = record {
  from = c.first_of_greens-found.ensures.from;
  end = omega (arith, c.first_of_greens-found.ensures.«end», c.loop-red.invariant.«end»);
  far = both_far (map numbers c.args.colors.now) (nearest.numbers c.new-sought.result.clr) (nearest.numbers c.new-sought.result.least) c.new-sought.result.from c.loop-red.found c.first_of_greens-found.result
      (λ entry. Lies (nearest.numbers c.new-sought.result.low) (nearest.numbers c.new-sought.result.high) (steps entry) × (slice_index (steps entry) 0 < c.loop-red.red)) _ (λ entry. Lies (nearest.numbers c.new-sought.result.low) (nearest.numbers c.new-sought.result.high) (steps entry) × (slice_index (steps entry) 0 < c.loop-red.red + 1)) c.loop-red.invariant.far c.first_of_greens-found.ensures.far c.first_of_greens-found.ensures.«end»
      (λ entry both. next_red c.loop-red.red (nearest.numbers c.new-sought.result.low) (nearest.numbers c.new-sought.result.high) entry both.0 both.1);
}

pub returns-clause-far : goal.returns-clause-far
returns-clause-far c =
    let colors = map numbers c.args.colors.now in
    let clr = nearest.numbers c.args.clr in
    let least = nearest.numbers c.args.least in
    let low = nearest.numbers c.new-sought.result.low in
    let high = nearest.numbers c.new-sought.result.high in
    let far : AreFar colors clr least c.args.from c.loop-red.found (λ entry. Lies low high (steps entry) × (slice_index (steps entry) 0 < c.loop-red.red)) =
    rw (c.new-sought.ensures.clr, c.new-sought.ensures.least, c.new-sought.ensures.from) at c.loop-red.invariant.far in
    none_near colors clr least c.args.from c.loop-red.found (λ entry. Lies low high (steps entry)) c.new-sought.ensures.near
    (fewer_far colors clr least c.args.from c.loop-red.found (λ entry. Lies low high (steps entry) × (slice_index (steps entry) 0 < c.loop-red.red))
    (λ entry. Lies low high (steps entry)) far (λ entry lies. (lies, omega (arith, lies.red_high))))
