-- What holds at each turn of the loop over `i` in `item_sums_of`.
use Rattle.std.proofs.Common.{true, take}
use Rattle.pix_table.specs.quantization.Items.{pair_items, spread}
use Rattle.pix_table.specs.SeenPixels.{seen_numbers}
use Rattle.pix_table.specs.quantization.SeenSums.{AreSeenSums}
use Rattle.pix_table.proofs.rgba.items.item_sums_of.Given as goal

-- they are the sums of the first i items
abbrev pub invariant-loop-i : goal.invariant-loop-i
invariant-loop-i l = AreSeenSums (λ color. true) (spread 4 (pair_items seen_numbers (take l.i l.items))) l.sums
