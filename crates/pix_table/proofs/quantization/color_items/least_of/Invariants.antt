-- What holds at each turn of the loop over `i` in `least_of`.
use Rattle.std.proofs.Common.{◌≤◌, All, get_or, take}
use Rattle.pix_table.specs.matching.Nearest.{numbers}
use Rattle.pix_table.specs.quantization.Items.{pair_items, spread}
use Rattle.pix_table.proofs.quantization.color_items.least_of.Given as goal

-- no number of the first i items is below it
abbrev pub invariant-loop-i : goal.invariant-loop-i
invariant-loop-i l = record {
  red : All (λ color. l.least.red ≤ get_or color 0 0) (spread 3 (take l.i (pair_items numbers l.items)));
  green : All (λ color. l.least.green ≤ get_or color 1 0) (spread 3 (take l.i (pair_items numbers l.items)));
  blue : All (λ color. l.least.blue ≤ get_or color 2 0) (spread 3 (take l.i (pair_items numbers l.items)));
}
