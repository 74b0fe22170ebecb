-- Of `best_of_many`: that there is no place before the first, and its clause at each return.
use Rattle.std.proofs.Common.{◌<◌, arith, length, subst, map}
use Rattle.std.proofs.lemmas.List.{length-map, length-replicate}
use Rattle.pix_table.specs.quantization.BestPlaces.{IsBestUpToBy}
use Rattle.pix_table.specs.quantization.Items.{item_of, pair_items, spread}
use Rattle.pix_table.specs.SeenPixels.{seen_numbers}
use Rattle.pix_table.specs.quantization.SeenCut.{seen_weight}
use Rattle.pix_table.specs.quantization.SeenSums.{seen_gain_at}
use Rattle.pix_table.proofs.lemmas.quantization.ItemCuts.{place_of_items}
use Rattle.pix_table.proofs.lemmas.quantization.PlaceSteps.{best_found, none_first}
use Rattle.pix_table.proofs.lemmas.quantization.SeenItems.{items_are, items_seen, items_summed}
use Rattle.pix_table.proofs.lemmas.quantization.SeenWeights.{cut_gain}
use Rattle.pix_table.proofs.rgba.items.best_of_many.Goals as goal

pub loop-k-init : goal.loop-k-init
loop-k-init c = record { many = length-replicate 256 c.none-parts.result; best = none_first 4 (spread 4 (pair_items seen_numbers c.args.items.now)) }

pub best_in-best-requires-clause-before : goal.best_in-best-requires-clause-before
best_in-best-requires-clause-before c =
    let items = pair_items seen_numbers c.args.items.now in
    let some : 0 < length (pair_items seen_numbers c.args.items.now) =
    omega (arith, c.requires.some, length-map c.args.items.now (λ pair. item_of (map seen_numbers pair))) in (
      spread 4 items,
      items_summed items c.loop-k.k (map (λ sums. sums) c.sum_by_value.new.parts) c.args.all some c.requires.few c.requires.fit c.sum_by_value.ensures.sums c.requires.all,
      c.loop-k.invariant.best,
    )

pub loop-k-preserved : goal.loop-k-preserved
loop-k-preserved c =
    let items = pair_items seen_numbers c.args.items.now in
    let some : 0 < length (pair_items seen_numbers c.args.items.now) =
    omega (arith, c.requires.some, length-map c.args.items.now (λ pair. item_of (map seen_numbers pair))) in
    record {
      many = c.sum_by_value.ensures.many;
      best = c.best_in-best.ensures (spread 4 items)
          (items_summed items c.loop-k.k (map (λ sums. sums) c.sum_by_value.new.parts) c.args.all some c.requires.few c.requires.fit c.sum_by_value.ensures.sums c.requires.all)
          c.loop-k.invariant.best;
    }

pub returns : goal.returns
returns c =
    let items = pair_items seen_numbers c.args.items.now in
    place_of_items 4 seen_weight items c.loop-k.best (items_are items c.requires.fit)
    (best_found 4 seen_gain_at seen_weight (spread 4 items) c.loop-k.best (cut_gain (spread 4 items) (items_seen items c.requires.fit))
    (subst (λ k. IsBestUpToBy 4 seen_gain_at (spread 4 (pair_items seen_numbers c.args.items.now)) k 0 c.loop-k.best) (omega arith) c.loop-k.invariant.best))
