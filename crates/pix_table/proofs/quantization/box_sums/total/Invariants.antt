-- What holds at each turn of the loop over `value` in `total`.
use Rattle.std.proofs.Common.{ℕ, List}
use Rattle.pix_table.specs.quantization.BestPlaces.{AreByValue, AreSums, is_below}
use Rattle.pix_table.proofs.quantization.box_sums.total.Given as goal

-- they are the sums of the colors below the value
abbrev pub invariant-loop-value : goal.invariant-loop-value
invariant-loop-value l = (box : List (List ℕ)) → AreByValue l.k box l.parts → AreSums (is_below l.k l.value) box l.sums
