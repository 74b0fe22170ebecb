-- Of `item_sums_of`: that the sums are few, and that they are of one item more after each turn.
use Rattle.std.proofs.Common.{◌≡◌, true, [], take, get_or, arith, refl, sym, subst}
use Rattle.std.proofs.lemmas.List.{get_or_default}
use Rattle.pix_table.specs.quantization.Items.{pair_items, spread}
use Rattle.pix_table.specs.SeenPixels.{seen_numbers}
use Rattle.pix_table.specs.quantization.SeenSums.{AreSeenSums}
use Rattle.pix_table.proofs.lemmas.quantization.GroupLemmas.{seen_joined}
use Rattle.pix_table.proofs.lemmas.quantization.SeenItems.{alone_few, first_items, items_seen, next_few, next_item, spread_more}
use Rattle.pix_table.proofs.lemmas.quantization.SeenSumLemmas.{are_few, count_few}
use Rattle.pix_table.proofs.rgba.items.item_sums_of.Goals as goal

-- the item of a turn
read : (c : goal.After-item_sums) → get_or c.args.items.now c.loop-i.i [] ≡ get_or c.args.items.now c.loop-i.i (get_or c.args.items.now c.loop-i.i [])
read c = get_or_default c.args.items.now c.loop-i.i [] _ c.loop-i-test.true

pub item_sums-requires : goal.item_sums-requires
item_sums-requires c =
    next_item c.args.items.now c.loop-i.i (get_or c.args.items.now c.loop-i.i []) c.loop-i-test.true
    (get_or_default c.args.items.now c.loop-i.i [] _ c.loop-i-test.true) c.requires.fit

pub and-sums-requires-clause-count : goal.and-sums-requires-clause-count
and-sums-requires-clause-count c =
    let xs = c.args.items.now in
    omega (
      arith,
      next_few xs c.loop-i.i (get_or xs c.loop-i.i []) c.loop-i-test.true (read c) 18446744073709551616 c.requires.few,
      count_few (λ color. true) (spread 4 (pair_items seen_numbers (take c.loop-i.i xs))) c.loop-i.sums c.loop-i.invariant,
      count_few (λ color. true) _ c.item_sums.result (c.item_sums.ensures (λ color. true) refl),
    )

pub and-sums-requires-clause-few : goal.and-sums-requires-clause-few
and-sums-requires-clause-few c = are_few _ _ _ (items_seen _ (first_items c.args.items.now c.loop-i.i c.requires.fit)) c.loop-i.invariant

pub and-sums-requires-clause-more : goal.and-sums-requires-clause-more
and-sums-requires-clause-more c =
    let xs = c.args.items.now in
    alone_few (λ color. true) _ c.item_sums.result (next_item xs c.loop-i.i (get_or xs c.loop-i.i []) c.loop-i-test.true (read c) c.requires.fit)
    (c.item_sums.ensures (λ color. true) refl)

pub loop-i-preserved : goal.loop-i-preserved
loop-i-preserved c =
    let xs = c.args.items.now in
    let e = c.and-sums.ensures in
    let true_read : get_or xs c.loop-i.i [] ≡ get_or xs c.loop-i.i (get_or xs c.loop-i.i []) = get_or_default xs c.loop-i.i [] _ c.loop-i-test.true in
    subst (λ l. AreSeenSums (λ color. true) l c.and-sums.result) (sym (spread_more xs c.loop-i.i (get_or xs c.loop-i.i []) c.loop-i-test.true true_read))
    (seen_joined (λ color. true) (spread 4 (pair_items seen_numbers (take c.loop-i.i xs))) _ c.loop-i.sums c.item_sums.result c.and-sums.result
    c.loop-i.invariant (c.item_sums.ensures (λ color. true) refl) e.count e.red e.green e.blue e.alpha)
