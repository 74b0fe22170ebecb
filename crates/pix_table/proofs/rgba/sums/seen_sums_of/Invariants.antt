-- What holds at each turn of the loop over `i` in `seen_sums_of`.
use Rattle.std.proofs.Common.{true, map, take}
use Rattle.pix_table.specs.SeenPixels.{seen_numbers}
use Rattle.pix_table.specs.quantization.SeenSums.{AreSeenSums}
use Rattle.pix_table.proofs.rgba.sums.seen_sums_of.Given as goal

-- they are the sums of the first i colors
abbrev pub invariant-loop-i : goal.invariant-loop-i
invariant-loop-i l = AreSeenSums (λ color. true) (map seen_numbers (take l.i l.colors)) l.sums
