-- What holds at each turn of the loop over `value` in `word_sum`.
use Rattle.std.proofs.Common.{◌≡◌, ℕ, List}
use Rattle.pix_table.specs.quantization.BestPlaces.{AreBlockWords, is_below, sum_of, word_of}
use Rattle.pix_table.proofs.quantization.box_sums.word_sum.Given as goal

-- it is the sum of the words of the colors below the value
abbrev pub invariant-loop-value : goal.invariant-loop-value
invariant-loop-value l = (box : List (List ℕ)) → AreBlockWords l.words l.k box → l.sum ≡ sum_of (is_below l.k l.value) (word_of l.k) box
