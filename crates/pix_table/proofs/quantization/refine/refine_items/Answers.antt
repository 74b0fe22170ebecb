-- Of `refine_items`: that the rounds of the pairs are those of their colors.
use Rattle.std.proofs.Common.{◌≡◌, ℕ, ◌+◌, ◌<◌, List, length, map, sum_by, IsPermutation, arith, sym, subst}
use Rattle.std.specs.List.{flat_map}
use Rattle.std.proofs.lemmas.List.Sorted.{IsPermutation-refl}
use Rattle.pix_table.specs.quantization.Items.{AreItemsOf, item_sum, pair_items, spread}
use Rattle.pix_table.specs.matching.Nearest.{distance, numbers}
use Rattle.pix_table.specs.quantization.Refine.{refined}
use Rattle.pix_table.proofs.lemmas.quantization.ItemLists.{length-spread}
use Rattle.pix_table.proofs.lemmas.quantization.LeastMeans.{refined_least}
use Rattle.pix_table.proofs.lemmas.quantization.PairItems.{items_of_pairs}
use Rattle.pix_table.proofs.lemmas.quantization.RefinedTables.{rounds_fall}
use Rattle.pix_table.proofs.lemmas.quantization.SumLemmas.{length_sum}
use Rattle.pix_table.proofs.quantization.refine.refine_items.Goals as goal

pub refine_by-requires-clause-count : goal.refine_by-requires-clause-count
refine_by-requires-clause-count c =
    let n = length c.args.items.now in
    let colors = spread 3 (pair_items numbers c.args.items.now) in
    let same : sum_by (λ color. 1) (spread 3 (pair_items numbers c.args.items.now))
    ≡ item_sum (λ color. 1) (map numbers (flat_map (λ x. x) c.args.items.now)) (length c.args.items.now) (length c.args.items.now + 0) =
    items_of_pairs numbers 3 c.args.items.now c.told-items c.requires.items colors (IsPermutation-refl colors) (λ color. 1) in
    subst (λ l. item_sum (λ color. 1) (map numbers l) n (n + 0) < 18446744073709551616) (sym c.as_flattened.ensures.value)
    (omega (arith, same, length_sum colors, length-spread 3 (pair_items numbers c.args.items.now), c.requires.count))

pub returns-clause-rounds : goal.returns-clause-rounds
returns-clause-rounds c = λ all moved.
    c.refine_by.ensures.rounds all
    (subst (λ l. AreItemsOf all (map numbers l) (length c.args.items.now) 0) (sym c.as_flattened.ensures.value)
    (items_of_pairs numbers 3 c.args.items.now c.told-items c.requires.items all moved))

pub returns-clause-no_worse : goal.returns-clause-no_worse
returns-clause-no_worse c = λ all moved.
    rounds_fall distance refined refined_least c.args.rounds all (map numbers c.args.entries.now) (map numbers c.refine_by.new.entries)
    (returns-clause-rounds c all moved)
