-- Of `refine_seen_items`: that what is made of the pairs is made of their colors.
use Rattle.std.proofs.Common.{◌≡◌, ◌+◌, ◌<◌, length, map, sum_by, arith, sym, subst}
use Rattle.std.specs.List.{flat_map}
use Rattle.std.proofs.lemmas.List.Sorted.{All-permutation, IsPermutation-refl, IsPermutation-sym}
use Rattle.pix_table.specs.quantization.Items.{AreItemsOf, item_sum, pair_items, spread}
use Rattle.pix_table.specs.SeenPixels.{AreSeen, seen_numbers}
use Rattle.pix_table.proofs.lemmas.quantization.ItemLists.{length-spread}
use Rattle.pix_table.proofs.lemmas.quantization.PairItems.{items_of_pairs}
use Rattle.pix_table.proofs.lemmas.quantization.SumLemmas.{length_sum}
use Rattle.pix_table.proofs.rgba.refine.refine_seen_items.Goals as goal

pub refine_to_opaque-requires-clause-count : goal.refine_to_opaque-requires-clause-count
refine_to_opaque-requires-clause-count c =
    let n = length c.args.items.now in
    let colors = spread 4 (pair_items seen_numbers c.args.items.now) in
    let same : sum_by (λ color. 1) (spread 4 (pair_items seen_numbers c.args.items.now))
    ≡ item_sum (λ color. 1) (map seen_numbers (flat_map (λ x. x) c.args.items.now)) (length c.args.items.now) (length c.args.items.now + 0) =
    items_of_pairs seen_numbers 4 c.args.items.now c.told-items c.requires.items colors (IsPermutation-refl colors) (λ color. 1) in
    subst (λ l. item_sum (λ color. 1) (map seen_numbers l) n (n + 0) < 18446744073709551616) (sym c.as_flattened.ensures.value)
    (omega (arith, same, length_sum colors, length-spread 4 (pair_items seen_numbers c.args.items.now), c.requires.count))

pub refine_to_opaque-requires-clause-colors : goal.refine_to_opaque-requires-clause-colors
refine_to_opaque-requires-clause-colors c =
    let colors = spread 4 (pair_items seen_numbers c.args.items.now) in (
      colors,
      subst (λ l. AreItemsOf colors (map seen_numbers l) (length c.args.items.now) 0) (sym c.as_flattened.ensures.value)
          (items_of_pairs seen_numbers 4 c.args.items.now c.told-items c.requires.items colors (IsPermutation-refl colors)),
      c.requires.colors,
    )

pub returns-clause-refined : goal.returns-clause-refined
returns-clause-refined c = λ all moved.
    let colors = spread 4 (pair_items seen_numbers c.args.items.now) in
    c.refine_to_opaque.ensures.refined all
    (subst (λ l. AreItemsOf all (map seen_numbers l) (length c.args.items.now) 0) (sym c.as_flattened.ensures.value)
    (items_of_pairs seen_numbers 4 c.args.items.now c.told-items c.requires.items all moved))
    (All-permutation AreSeen colors all (IsPermutation-sym all colors moved) c.requires.colors)
