-- Of `Lists::first_of_blues`: that the invariant of its loop over `blue` holds at first and stays,
-- and what it tells at its end.
use Rattle.std.specs.Prelude.{slice_index}
use Rattle.std.proofs.Common.{◌<◌, ◌+◌, ◌∷◌, [], map, refl, arith}
use Rattle.pix_table.specs.matching.Nearest as nearest
use Rattle.pix_table.specs.threshold.ColorBlocks.{Lies}
use Rattle.pix_palette.specs.Palette.{numbers}
use Rattle.pix_palette.specs.Finder.{steps}
use Rattle.pix_palette.proofs.Cells.{both_far, fewer_far, next_blue}
use Rattle.pix_palette.proofs.palette.lists.Lists.first_of_blues.Goals as goal

pub loop-blue-init : goal.loop-blue-init
loop-blue-init c = record {
  from = c.requires.from;
  end = omega arith;
  far = λ k from below both. absurd (omega (arith, both.0.blue_low, both.1));
}

pub loop-blue-preserved : goal.loop-blue-preserved
loop-blue-preserved c = record {
  from = c.first_of_cell-found.ensures.from;
  end = omega (arith, c.first_of_cell-found.ensures.«end», c.loop-blue.invariant.«end»);
  far = both_far (map numbers c.args.colors.now) (nearest.numbers c.args.sought.clr) (nearest.numbers c.args.sought.least) c.args.sought.from c.loop-blue.found c.first_of_cell-found.result
      (λ entry. Lies (c.args.red ∷ c.args.green ∷ c.args.sought.low.blue ∷ []) (c.args.red ∷ c.args.green ∷ c.args.sought.high.blue ∷ []) (steps entry) × (slice_index (steps entry) 2 < c.loop-blue.blue)) _ (λ entry. Lies (c.args.red ∷ c.args.green ∷ c.args.sought.low.blue ∷ []) (c.args.red ∷ c.args.green ∷ c.args.sought.high.blue ∷ []) (steps entry) × (slice_index (steps entry) 2 < c.loop-blue.blue + 1)) c.loop-blue.invariant.far c.first_of_cell-found.ensures.far c.first_of_cell-found.ensures.«end»
      (λ entry both. next_blue c.args.red c.args.green c.loop-blue.blue _ _ entry both.0 refl refl refl refl both.1);
}

pub returns-clause-far : goal.returns-clause-far
returns-clause-far c =
    fewer_far (map numbers c.args.colors.now) (nearest.numbers c.args.sought.clr) (nearest.numbers c.args.sought.least) c.args.sought.from c.loop-blue.found
    (λ entry. Lies (c.args.red ∷ c.args.green ∷ c.args.sought.low.blue ∷ []) (c.args.red ∷ c.args.green ∷ c.args.sought.high.blue ∷ []) (steps entry) × (slice_index (steps entry) 2 < c.loop-blue.blue)) _ c.loop-blue.invariant.far (λ entry lies. (lies, omega (arith, lies.blue_high)))
