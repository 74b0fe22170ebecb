-- What holds at each turn of the loop over `start` in `add_items`.
use Rattle.std.proofs.Common.{◌-◌, ◌≤◌, All, length, take}
use Rattle.pix_table.specs.matching.Nearest.{numbers}
use Rattle.pix_table.specs.quantization.BestPlaces.{AreByValue, AreBytes}
use Rattle.pix_table.specs.quantization.Items.{pair_items, spread}
use Rattle.pix_table.proofs.quantization.color_items.add_items.Given as goal

-- they are the sums of the colors of the items before `start`
abbrev pub invariant-loop-start : goal.invariant-loop-start
invariant-loop-start l = record {
  within : l.start ≤ length l.items;
  reds : AreByValue 0 (spread 3 (take l.start (pair_items numbers l.items))) l.reds;
  greens : AreByValue 1 (spread 3 (take l.start (pair_items numbers l.items))) l.greens;
  blues : AreByValue 2 (spread 3 (take l.start (pair_items numbers l.items))) l.blues;
  bytes : All AreBytes (spread 3 (take l.start (pair_items numbers l.items)));
}

abbrev pub decreases-loop-start : goal.decreases-loop-start
decreases-loop-start l = length l.items - l.start
