-- What holds at each turn of the loop over `i` in `block_len`.
use Rattle.std.proofs.Common.{◌≡◌, ◌≤◌, sum_by, take}
use Rattle.pix_table.specs.matching.Nearest.{numbers}
use Rattle.pix_table.specs.quantization.Items.{pair_items, times_of}
use Rattle.pix_table.proofs.quantization.color_items.block_len.Given as goal

-- the first i items are so many colors, which are no more than a block
abbrev pub invariant-loop-i : goal.invariant-loop-i
invariant-loop-i l = record {
  held : l.held ≡ sum_by (times_of 3) (take l.i (pair_items numbers l.items));
  few : l.held ≤ 65535;
}
