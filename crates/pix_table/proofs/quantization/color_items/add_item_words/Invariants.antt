-- What holds at each turn of the loop over `i` in `add_item_words`.
use Rattle.std.proofs.Common.{All, take}
use Rattle.pix_table.specs.matching.Nearest.{numbers}
use Rattle.pix_table.specs.quantization.BestPlaces.{AreBytes, AreWords}
use Rattle.pix_table.specs.quantization.Items.{pair_items, spread}
use Rattle.pix_table.proofs.quantization.color_items.add_item_words.Given as goal

-- they are the words of the colors of the first i items
abbrev pub invariant-loop-i : goal.invariant-loop-i
invariant-loop-i l = record {
  reds : AreWords 0 (spread 3 (take l.i (pair_items numbers l.items))) l.reds;
  greens : AreWords 1 (spread 3 (take l.i (pair_items numbers l.items))) l.greens;
  blues : AreWords 2 (spread 3 (take l.i (pair_items numbers l.items))) l.blues;
  bytes : All AreBytes (spread 3 (take l.i (pair_items numbers l.items)));
}
