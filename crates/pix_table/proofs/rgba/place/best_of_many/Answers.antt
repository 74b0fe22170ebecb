-- Of `best_of_many`: that there is no place before the first, and its clause at the end.
use Rattle.std.proofs.Common.{arith, map, subst}
use Rattle.pix_table.specs.quantization.BestPlaces.{IsBestUpToBy}
use Rattle.pix_table.specs.SeenPixels.{seen_numbers}
use Rattle.pix_table.specs.quantization.SeenCut.{seen_weight}
use Rattle.pix_table.specs.quantization.SeenSums.{seen_gain_at}
use Rattle.pix_table.proofs.lemmas.quantization.PlaceSteps.{best_found, none_first}
use Rattle.pix_table.proofs.lemmas.quantization.SeenWeights.{cut_gain}
use Rattle.pix_table.proofs.rgba.place.best_of_many.Goals as goal

pub loop-k-init : goal.loop-k-init
loop-k-init c = none_first 4 (map seen_numbers c.args.colors.now)

pub returns : goal.returns
returns c =
    best_found 4 seen_gain_at seen_weight (map seen_numbers c.args.colors.now) c.loop-k.best (cut_gain (map seen_numbers c.args.colors.now) c.requires.seen)
    (subst (λ k. IsBestUpToBy 4 seen_gain_at (map seen_numbers c.args.colors.now) k 0 c.loop-k.best) (omega arith) c.loop-k.invariant)
