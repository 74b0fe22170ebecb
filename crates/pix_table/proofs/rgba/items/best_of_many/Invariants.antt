-- What holds at each turn of the loop over `k` in `best_of_many`.
use Rattle.std.proofs.Common.{◌≡◌, length}
use Rattle.pix_table.specs.quantization.BestPlaces.{IsBestUpToBy}
use Rattle.pix_table.specs.quantization.Items.{pair_items, spread}
use Rattle.pix_table.specs.SeenPixels.{seen_numbers}
use Rattle.pix_table.specs.quantization.SeenSums.{seen_gain_at}
use Rattle.pix_table.proofs.rgba.items.best_of_many.Given as goal

-- the best is that of the channels before k
abbrev pub invariant-loop-k : goal.invariant-loop-k
invariant-loop-k l = record {
  many : length l.parts ≡ 256;
  best : IsBestUpToBy 4 seen_gain_at (spread 4 (pair_items seen_numbers l.items)) l.k 0 l.best;
}
