-- What holds at each turn of the loop over `i` in `sums_of_items`.
use Rattle.std.proofs.Common.{All, take, true}
use Rattle.pix_table.specs.matching.Nearest.{numbers}
use Rattle.pix_table.specs.quantization.BestPlaces.{AreBytes, AreSums}
use Rattle.pix_table.specs.quantization.Items.{pair_items, spread}
use Rattle.pix_table.proofs.quantization.color_items.sums_of_items.Given as goal

-- they are the sums of the colors of the first i items
abbrev pub invariant-loop-i : goal.invariant-loop-i
invariant-loop-i l = record {
  sums : AreSums (λ color. true) (spread 3 (take l.i (pair_items numbers l.items))) l.sums;
  bytes : All AreBytes (spread 3 (take l.i (pair_items numbers l.items)));
}
