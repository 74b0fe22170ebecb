-- What holds at each turn of the loop over `i` in `sum_by_value`.
use Rattle.std.proofs.Common.{map, take}
use Rattle.pix_table.specs.quantization.Items.{pair_items, spread}
use Rattle.pix_table.specs.SeenPixels.{seen_numbers}
use Rattle.pix_table.specs.quantization.SeenSums.{AreSeenByValue}
use Rattle.pix_table.proofs.rgba.items.sum_by_value.Given as goal

-- they are the sums of the first i items
abbrev pub invariant-loop-i : goal.invariant-loop-i
invariant-loop-i g l = AreSeenByValue l.k (spread 4 (pair_items seen_numbers (take l.i l.items))) (map g.S.PartSums.whole l.parts)
