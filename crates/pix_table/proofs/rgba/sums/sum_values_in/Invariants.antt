-- What holds at each turn of the loop over `i` in `sum_values_in`.
use Rattle.std.proofs.Common.{map, take}
use Rattle.pix_table.specs.SeenPixels.{seen_numbers}
use Rattle.pix_table.specs.quantization.SeenSums.{AreSeenByValue}
use Rattle.pix_table.proofs.rgba.sums.sum_values_in.Given as goal

-- they are the sums of the first i colors
abbrev pub invariant-loop-i : goal.invariant-loop-i
invariant-loop-i l = AreSeenByValue l.k (map seen_numbers (take l.i l.colors)) l.parts
