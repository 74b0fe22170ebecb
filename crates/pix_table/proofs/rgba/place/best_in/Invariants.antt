-- What holds at each turn of the loop over `value` in `best_in`.
use Rattle.std.proofs.Common.{◌+◌, ℕ, List, map}
use Rattle.pix_table.specs.quantization.BestPlaces.{IsBestUpToBy, is_below}
use Rattle.pix_table.specs.quantization.SeenSums.{AreSeenSums, IsSummed, seen_gain_at}
use Rattle.pix_table.proofs.rgba.place.best_in.Given as goal

-- the sums are those of the colors below the value, and the best is that of the places up to the value
abbrev pub invariant-loop-value : goal.invariant-loop-value
invariant-loop-value g l = record {
  low : (box : List (List ℕ)) → IsSummed l.k box (map g.S.PartSums.whole l.parts) l.all → AreSeenSums (is_below l.k l.value) box l.low;
  best : (box : List (List ℕ)) → IsSummed l.k box (map g.S.PartSums.whole l.parts) l.all → IsBestUpToBy 4 seen_gain_at box l.k 0 l.fn.best
      → IsBestUpToBy 4 seen_gain_at box l.k (l.value + 1) l.best;
}
