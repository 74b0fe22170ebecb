-- What holds at each turn of the loop over `i` in `sums_of`.
use Rattle.std.proofs.Common.{true, map, take, All}
use Rattle.pix_table.specs.matching.Nearest.{numbers}
use Rattle.pix_table.specs.quantization.BestPlaces.{AreBytes, AreSums}
use Rattle.pix_table.proofs.quantization.box_sums.sums_of.Given as goal

-- they are the sums of the first i colors
abbrev pub invariant-loop-i : goal.invariant-loop-i
invariant-loop-i l = record {
  sums : AreSums (λ color. true) (map numbers (take l.i l.colors)) l.sums;
  bytes : All AreBytes (map numbers (take l.i l.colors));
}
