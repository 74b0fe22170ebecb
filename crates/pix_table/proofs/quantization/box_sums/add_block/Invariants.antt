-- What holds at each turn of the loop over `value` in `add_block`.
use Rattle.std.proofs.Common.{◌≡◌, ◌<◌, ◌≤◌, ◌++◌, ℕ, List, length, get_or}
use Rattle.pix_table.specs.quantization.BestPlaces.{AreBlockWords, AreByValue, AreSums, is_at}
use Rattle.pix_table.specs.declared.quantization.box_sums.Sums.{Sums}
use Rattle.pix_table.proofs.quantization.box_sums.add_block.Given as goal

-- the sums of the values below `value` have the colors of this block too
abbrev pub invariant-loop-value : goal.invariant-loop-value
invariant-loop-value l = record {
  many : length l.parts ≡ 256;
  done : (before block : List (List ℕ)) → AreBlockWords l.words l.k block → AreByValue l.k before l.fn.parts → (v : ℕ) (d : Sums) → v < l.value
      → AreSums (is_at l.k v) (before ++ block) (get_or l.parts v d);
  rest : (before : List (List ℕ)) → AreByValue l.k before l.fn.parts → (v : ℕ) (d : Sums) → l.value ≤ v → v < 256
      → AreSums (is_at l.k v) before (get_or l.parts v d);
}
