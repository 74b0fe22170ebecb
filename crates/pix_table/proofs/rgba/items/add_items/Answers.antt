-- Of `add_items`: that the sums are those of one item more after each turn.
use Rattle.std.proofs.Common.{[], get_or, map}
use Rattle.std.proofs.lemmas.List.{get_or_default}
use Rattle.pix_table.proofs.lemmas.quantization.SeenItems.{added_few, next_item, values_next}
use Rattle.pix_table.proofs.rgba.items.add_items.Goals as goal

pub add_item-requires-clause-sums : goal.add_item-requires-clause-sums
add_item-requires-clause-sums g c =
    let xs = c.args.items.now in
    added_few xs c.loop-i.i (get_or xs c.loop-i.i []) c.loop-i-test.true (get_or_default xs c.loop-i.i [] _ c.loop-i-test.true) 0
    (map g.S.PartSums.whole c.loop-i.reds) g.S.PartSums.limit c.requires.fit c.requires.few c.loop-i.invariant.reds

pub add_item-requires-clause-item : goal.add_item-requires-clause-item
add_item-requires-clause-item g c =
    let xs = c.args.items.now in
    next_item xs c.loop-i.i (get_or xs c.loop-i.i []) c.loop-i-test.true (get_or_default xs c.loop-i.i [] _ c.loop-i-test.true) c.requires.fit

pub add_item-requires-in-loop-i-clause-sums : goal.add_item-requires-in-loop-i-clause-sums
add_item-requires-in-loop-i-clause-sums g c =
    let xs = c.args.items.now in
    added_few xs c.loop-i.i (get_or xs c.loop-i.i []) c.loop-i-test.true (get_or_default xs c.loop-i.i [] _ c.loop-i-test.true) 1
    (map g.S.PartSums.whole c.loop-i.greens) g.S.PartSums.limit c.requires.fit c.requires.few c.loop-i.invariant.greens

pub add_item-requires-in-loop-i-clause-item : goal.add_item-requires-in-loop-i-clause-item
add_item-requires-in-loop-i-clause-item g c =
    let xs = c.args.items.now in
    next_item xs c.loop-i.i (get_or xs c.loop-i.i []) c.loop-i-test.true (get_or_default xs c.loop-i.i [] _ c.loop-i-test.true) c.requires.fit

pub add_item-requires-in-loop-i-2-clause-sums : goal.add_item-requires-in-loop-i-2-clause-sums
add_item-requires-in-loop-i-2-clause-sums g c =
    let xs = c.args.items.now in
    added_few xs c.loop-i.i (get_or xs c.loop-i.i []) c.loop-i-test.true (get_or_default xs c.loop-i.i [] _ c.loop-i-test.true) 2
    (map g.S.PartSums.whole c.loop-i.blues) g.S.PartSums.limit c.requires.fit c.requires.few c.loop-i.invariant.blues

pub add_item-requires-in-loop-i-2-clause-item : goal.add_item-requires-in-loop-i-2-clause-item
add_item-requires-in-loop-i-2-clause-item g c =
    let xs = c.args.items.now in
    next_item xs c.loop-i.i (get_or xs c.loop-i.i []) c.loop-i-test.true (get_or_default xs c.loop-i.i [] _ c.loop-i-test.true) c.requires.fit

pub add_item-requires-in-loop-i-3-clause-sums : goal.add_item-requires-in-loop-i-3-clause-sums
add_item-requires-in-loop-i-3-clause-sums g c =
    let xs = c.args.items.now in
    added_few xs c.loop-i.i (get_or xs c.loop-i.i []) c.loop-i-test.true (get_or_default xs c.loop-i.i [] _ c.loop-i-test.true) 3
    (map g.S.PartSums.whole c.loop-i.alphas) g.S.PartSums.limit c.requires.fit c.requires.few c.loop-i.invariant.alphas

pub add_item-requires-in-loop-i-3-clause-item : goal.add_item-requires-in-loop-i-3-clause-item
add_item-requires-in-loop-i-3-clause-item g c =
    let xs = c.args.items.now in
    next_item xs c.loop-i.i (get_or xs c.loop-i.i []) c.loop-i-test.true (get_or_default xs c.loop-i.i [] _ c.loop-i-test.true) c.requires.fit

pub loop-i-preserved : goal.loop-i-preserved
loop-i-preserved g c =
    let xs = c.args.items.now in
    let next = values_next xs c.loop-i.i (get_or xs c.loop-i.i []) c.loop-i-test.true (get_or_default xs c.loop-i.i [] _ c.loop-i-test.true) in
    record {
      reds = next 0 (map g.S.PartSums.whole c.add_item.new.parts) (c.add_item.ensures _ c.loop-i.invariant.reds);
      greens = next 1 (map g.S.PartSums.whole c.add_item-in-loop-i.new.parts) (c.add_item-in-loop-i.ensures _ c.loop-i.invariant.greens);
      blues = next 2 (map g.S.PartSums.whole c.add_item-in-loop-i-2.new.parts) (c.add_item-in-loop-i-2.ensures _ c.loop-i.invariant.blues);
      alphas = next 3 (map g.S.PartSums.whole c.add_item-in-loop-i-3.new.parts) (c.add_item-in-loop-i-3.ensures _ c.loop-i.invariant.alphas);
    }
