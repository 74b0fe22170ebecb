-- What holds at each turn of the loop in `Lists::closest_after`.
use Rattle.std.proofs.Common.{◌≤◌, ◌-◌, length, map}
use Rattle.pix_table.specs.threshold.ColorBlocks.{IsBest}
use Rattle.pix_table.specs.matching.Nearest as nearest
use Rattle.pix_palette.specs.Palette.{numbers}
use Rattle.pix_palette.proofs.palette.lists.Lists.closest_after.Given as goal

-- `at` is the last candidate among the first entries, and `least` its difference
abbrev pub invariant-loop-count : goal.invariant-loop-count
invariant-loop-count l = record {
  within : l.count ≤ length l.fn.colors;
  best : IsBest (map numbers l.fn.colors) (nearest.numbers l.fn.clr) l.count l.at (nearest.numbers l.least);
}

abbrev pub decreases-loop-count : goal.decreases-loop-count
decreases-loop-count l = length l.fn.colors - l.count
