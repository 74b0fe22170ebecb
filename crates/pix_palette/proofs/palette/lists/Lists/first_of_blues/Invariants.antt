-- What holds at each turn of the loop over `blue` in `Lists::first_of_blues`.
use Rattle.std.proofs.Common.{◌<◌, ◌≤◌, ◌∷◌, [], map}
use Rattle.std.specs.Prelude.{slice_index}
use Rattle.pix_table.specs.threshold.ColorBlocks.{Lies}
use Rattle.pix_table.specs.matching.Nearest as nearest
use Rattle.pix_palette.specs.Palette.{numbers}
use Rattle.pix_palette.specs.Finder.{AreFar, steps}
use Rattle.pix_palette.proofs.palette.lists.Lists.first_of_blues.Given as goal

-- the entries before `found` are far whose blue comes before this one
abbrev pub invariant-loop-blue : goal.invariant-loop-blue
invariant-loop-blue l = record {
  from : l.fn.sought.from ≤ l.found;
  end : l.found ≤ l.fn.«end»;
  far : AreFar (map numbers l.fn.colors) (nearest.numbers l.fn.sought.clr) (nearest.numbers l.fn.sought.least) l.fn.sought.from l.found
      (λ entry. Lies (l.fn.red ∷ l.fn.green ∷ l.fn.sought.low.blue ∷ []) (l.fn.red ∷ l.fn.green ∷ l.fn.sought.high.blue ∷ []) (steps entry) × (slice_index (steps entry) 2 < l.blue));
}
