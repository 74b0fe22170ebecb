-- What holds at each turn of the loop over `i` in `add_items`.
use Rattle.std.proofs.Common.{map, take}
use Rattle.pix_table.specs.quantization.Items.{pair_items, spread}
use Rattle.pix_table.specs.SeenPixels.{seen_numbers}
use Rattle.pix_table.specs.quantization.SeenSums.{AreSeenByValue}
use Rattle.pix_table.proofs.rgba.items.add_items.Given as goal

-- they are the sums of the first i items
abbrev pub invariant-loop-i : goal.invariant-loop-i
invariant-loop-i g l = record {
  reds : AreSeenByValue 0 (spread 4 (pair_items seen_numbers (take l.i l.items))) (map g.S.PartSums.whole l.reds);
  greens : AreSeenByValue 1 (spread 4 (pair_items seen_numbers (take l.i l.items))) (map g.S.PartSums.whole l.greens);
  blues : AreSeenByValue 2 (spread 4 (pair_items seen_numbers (take l.i l.items))) (map g.S.PartSums.whole l.blues);
  alphas : AreSeenByValue 3 (spread 4 (pair_items seen_numbers (take l.i l.items))) (map g.S.PartSums.whole l.alphas);
}
