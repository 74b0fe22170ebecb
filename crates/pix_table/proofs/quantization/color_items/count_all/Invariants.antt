-- What holds at each turn of the loop over `i` in `count_all`.
use Rattle.std.proofs.Common.{◌≡◌, sum_by, take}
use Rattle.pix_table.specs.matching.Nearest.{numbers}
use Rattle.pix_table.specs.quantization.Items.{pair_items, times_of}
use Rattle.pix_table.proofs.quantization.color_items.count_all.Given as goal

-- it is how many colors the first i items are
abbrev pub invariant-loop-i : goal.invariant-loop-i
invariant-loop-i l = l.all ≡ sum_by (times_of 3) (take l.i (pair_items numbers l.items))
