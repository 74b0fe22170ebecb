-- Of `best_item_place`: that one item cannot be cut, and how many colors there are.
use Rattle.std.proofs.Common.{arith, map}
use Rattle.std.proofs.lemmas.List.{length-map}
use Rattle.pix_table.specs.quantization.Items.{item_of, pair_items, spread}
use Rattle.pix_table.specs.SeenPixels.{seen_numbers}
use Rattle.pix_table.proofs.lemmas.quantization.ItemLists.{length-spread}
use Rattle.pix_table.proofs.lemmas.quantization.PlaceSteps.{one_alone}
use Rattle.pix_table.proofs.lemmas.quantization.SeenSumLemmas.{whole_count}
use Rattle.pix_table.proofs.rgba.items.best_item_place.Goals as goal

pub returns-then-items-lt2 : goal.returns-then-items-lt2
returns-then-items-lt2 c =
    one_alone (pair_items seen_numbers c.args.items.now)
    (omega (arith, c.if-items-lt2.true, length-map c.args.items.now (λ pair. item_of (map seen_numbers pair))))

pub best_of_few-requires-clause-few : goal.best_of_few-requires-clause-few
best_of_few-requires-clause-few c =
    let items = pair_items seen_numbers c.args.items.now in
    omega (
      arith,
      c.if-all-lt-FEW_COLORS.true,
      whole_count (spread 4 items) c.item_sums_of-all.result c.item_sums_of-all.ensures,
      length-spread 4 items,
    )
