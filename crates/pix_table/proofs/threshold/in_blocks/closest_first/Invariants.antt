-- What holds at each turn of the loop in `closest_first`.
use Rattle.std.proofs.Common.{◌*◌, ◌≤◌, ◌-◌, length, map}
use Rattle.std.specs.Prelude.{max}
use Rattle.pix_table.specs.threshold.ColorBlocks.{IsBest}
use Rattle.pix_table.specs.matching.Nearest.{numbers}
use Rattle.pix_table.proofs.threshold.in_blocks.closest_first.Given as goal

-- `at` is the last candidate among the entries of the first k blocks, or entry 0, and `least` its
-- difference
abbrev pub invariant-loop-k : goal.invariant-loop-k
invariant-loop-k g l = record {
  within : l.k ≤ length l.blocks;
  best : IsBest (map g.C.TableColor.channels l.colors) (numbers l.clr) (max (16 * l.k) 1) l.at (numbers l.least);
}

abbrev pub decreases-loop-k : goal.decreases-loop-k
decreases-loop-k g l = length l.blocks - l.k
