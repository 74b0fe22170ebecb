-- Of `Lists::first_of_greens`: that the invariant of its loop over `green` holds at first and
-- stays, and what it tells at its end.
use Rattle.std.specs.Prelude.{slice_index}
use Rattle.std.proofs.Common.{◌<◌, ◌+◌, ◌∷◌, [], map, arith}
use Rattle.pix_table.specs.matching.Nearest as nearest
use Rattle.pix_table.specs.threshold.ColorBlocks.{Lies}
use Rattle.pix_palette.specs.Palette.{numbers}
use Rattle.pix_palette.specs.Finder.{steps}
use Rattle.pix_palette.proofs.Cells.{both_far, fewer_far, next_green}
use Rattle.pix_palette.proofs.palette.lists.Lists.first_of_greens.Goals as goal

pub loop-green-init : goal.loop-green-init
loop-green-init c = record {
  from = c.requires.from;
  end = omega arith;
  far = λ k from below both. absurd (omega (arith, both.0.green_low, both.1));
}

pub loop-green-preserved : goal.loop-green-preserved
loop-green-preserved c = record {
  from = c.first_of_blues-found.ensures.from;
  end = omega (arith, c.first_of_blues-found.ensures.«end», c.loop-green.invariant.«end»);
  far = both_far (map numbers c.args.colors.now) (nearest.numbers c.args.sought.clr) (nearest.numbers c.args.sought.least) c.args.sought.from c.loop-green.found c.first_of_blues-found.result
      (λ entry. Lies (c.args.red ∷ c.args.sought.low.green ∷ c.args.sought.low.blue ∷ []) (c.args.red ∷ c.args.sought.high.green ∷ c.args.sought.high.blue ∷ []) (steps entry)
      × (slice_index (steps entry) 1 < c.loop-green.green)) _ (λ entry. Lies (c.args.red ∷ c.args.sought.low.green ∷ c.args.sought.low.blue ∷ []) (c.args.red ∷ c.args.sought.high.green ∷ c.args.sought.high.blue ∷ []) (steps entry)
      × (slice_index (steps entry) 1 < c.loop-green.green + 1)) c.loop-green.invariant.far c.first_of_blues-found.ensures.far c.first_of_blues-found.ensures.«end»
      (λ entry both. next_green c.args.red c.loop-green.green (nearest.numbers c.args.sought.low) (nearest.numbers c.args.sought.high) entry both.0 both.1);
}

pub returns-clause-far : goal.returns-clause-far
returns-clause-far c =
    fewer_far (map numbers c.args.colors.now) (nearest.numbers c.args.sought.clr) (nearest.numbers c.args.sought.least) c.args.sought.from c.loop-green.found
    (λ entry. Lies (c.args.red ∷ c.args.sought.low.green ∷ c.args.sought.low.blue ∷ []) (c.args.red ∷ c.args.sought.high.green ∷ c.args.sought.high.blue ∷ []) (steps entry)
    × (slice_index (steps entry) 1 < c.loop-green.green)) _ c.loop-green.invariant.far (λ entry lies. (lies, omega (arith, lies.green_high)))
