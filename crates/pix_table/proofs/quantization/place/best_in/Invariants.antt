-- What holds at each turn of the loop over `value` in `best_in`.
use Rattle.std.proofs.Common.{◌+◌, ℕ, List}
use Rattle.pix_table.specs.quantization.BestPlaces.{AreSums, HasSums, IsBestUpTo, is_below}
use Rattle.pix_table.proofs.quantization.place.best_in.Given as goal

-- the sums are those of the colors below the value, and the best is that of the places up to the value
abbrev pub invariant-loop-value : goal.invariant-loop-value
invariant-loop-value g l = record {
  low : (box : List (List ℕ)) → HasSums g.P.ByValue.sums l.parts l.k l.first l.all box → AreSums (is_below l.k l.value) box l.low;
  best : (box : List (List ℕ)) → HasSums g.P.ByValue.sums l.parts l.k l.first l.all box → IsBestUpTo box l.k 0 l.fn.best
      → IsBestUpTo box l.k (l.value + 1) l.best;
}
