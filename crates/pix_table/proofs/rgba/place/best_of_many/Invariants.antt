-- What holds at each turn of the loop over `k` in `best_of_many`.
use Rattle.std.proofs.Common.{map}
use Rattle.pix_table.specs.quantization.BestPlaces.{IsBestUpToBy}
use Rattle.pix_table.specs.SeenPixels.{seen_numbers}
use Rattle.pix_table.specs.quantization.SeenSums.{seen_gain_at}
use Rattle.pix_table.proofs.rgba.place.best_of_many.Given as goal

-- the best is that of the channels before k
abbrev pub invariant-loop-k : goal.invariant-loop-k
invariant-loop-k l = IsBestUpToBy 4 seen_gain_at (map seen_numbers l.colors) l.k 0 l.best
