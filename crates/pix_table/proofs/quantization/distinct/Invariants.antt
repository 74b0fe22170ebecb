-- What holds at each turn of the loop over `i` in `distinct`.
use Rattle.std.proofs.Common.{◌≡◌, ◌≤◌, length, map, take}
use Rattle.pix_table.specs.matching.Nearest.{numbers}
use Rattle.pix_table.specs.quantization.Quantization.{distinct}
use Rattle.pix_table.proofs.quantization.distinct.Given as goal

-- the distinct ones of the first i colors are written
abbrev pub invariant-loop-i : goal.invariant-loop-i
invariant-loop-i l = record {
  within : l.count ≤ length l.entries;
  written : map numbers (take l.count l.entries) ≡ distinct (map numbers (take l.i l.colors));
}
