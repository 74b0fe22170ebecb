-- Of `sum_by_value`: that the sums are those of no items at first, and of one item more after each turn.
use Rattle.std.proofs.Common.{[], get_or, map, sym, ◌∙◌}
use Rattle.std.proofs.lemmas.List.{get_or_default, length-map}
use Rattle.pix_table.proofs.lemmas.quantization.SeenItems.{added_few, next_item, no_values, values_next}
use Rattle.pix_table.proofs.rgba.items.sum_by_value.Goals as goal

pub loop-i-init : goal.loop-i-init
loop-i-init g c = no_values g.S.PartSums.whole c.args.k c.clear.new.parts (c.clear.ensures.long ∙ c.requires.many) c.clear.ensures.none

pub add_item-requires-clause-item : goal.add_item-requires-clause-item
add_item-requires-clause-item g c =
    let xs = c.args.items.now in
    next_item xs c.loop-i.i (get_or xs c.loop-i.i []) c.loop-i-test.true (get_or_default xs c.loop-i.i [] _ c.loop-i-test.true) c.requires.fit

pub add_item-requires-clause-sums : goal.add_item-requires-clause-sums
add_item-requires-clause-sums g c =
    let xs = c.args.items.now in
    added_few xs c.loop-i.i (get_or xs c.loop-i.i []) c.loop-i-test.true (get_or_default xs c.loop-i.i [] _ c.loop-i-test.true) c.args.k
    (map g.S.PartSums.whole c.loop-i.parts) g.S.PartSums.limit c.requires.fit c.requires.few c.loop-i.invariant

pub loop-i-preserved : goal.loop-i-preserved
loop-i-preserved g c =
    let xs = c.args.items.now in
    values_next xs c.loop-i.i (get_or xs c.loop-i.i []) c.loop-i-test.true (get_or_default xs c.loop-i.i [] _ c.loop-i-test.true) c.args.k
    (map g.S.PartSums.whole c.add_item.new.parts) (c.add_item.ensures _ c.loop-i.invariant)

pub returns-clause-many : goal.returns-clause-many
returns-clause-many g c = sym (length-map c.loop-i.parts g.S.PartSums.whole) ∙ c.loop-i.invariant.many
