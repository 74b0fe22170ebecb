-- What holds at each turn of the loop over `red` in `Lists::next_near`.
use Rattle.std.proofs.Common.{◌<◌, ◌≤◌, length, map}
use Rattle.std.specs.Prelude.{slice_index}
use Rattle.pix_table.specs.threshold.ColorBlocks.{Lies}
use Rattle.pix_table.specs.matching.Nearest as nearest
use Rattle.pix_palette.specs.Palette.{numbers}
use Rattle.pix_palette.specs.Finder.{AreFar, steps}
use Rattle.pix_palette.proofs.palette.lists.Lists.next_near.Given as goal

-- the entries before `found` are far whose red comes before this one
abbrev pub invariant-loop-red : goal.invariant-loop-red
invariant-loop-red l = record {
  from : l.sought.from ≤ l.found;
  end : l.found ≤ length l.fn.colors;
  far : AreFar (map numbers l.fn.colors) (nearest.numbers l.sought.clr) (nearest.numbers l.sought.least) l.sought.from l.found
      (λ entry. Lies (nearest.numbers l.sought.low) (nearest.numbers l.sought.high) (steps entry) × (slice_index (steps entry) 0 < l.red));
}
