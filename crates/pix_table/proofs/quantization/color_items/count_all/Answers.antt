-- Of `count_all`: that it counts one item more after each turn.
use Rattle.std.proofs.Common.{◌∙◌, arith, ap, sum_by}
use Rattle.pix_table.specs.quantization.Items.{times_of}
use Rattle.pix_table.proofs.lemmas.quantization.ColorItems.{items_all, times_next, times_room}
use Rattle.pix_table.proofs.quantization.color_items.count_all.Goals as goal

pub overflow_add-all : goal.overflow_add-all
overflow_add-all c =
    let x = c.item_at-count.result in
    omega (arith, c.from-all.ensures, c.loop-i.invariant, c.requires, times_room c.args.items.now c.loop-i.i x.1 x.0 c.loop-i-test.true c.item_at-count.ensures)

pub loop-i-preserved : goal.loop-i-preserved
loop-i-preserved c =
    let x = c.item_at-count.result in
    omega (arith, c.from-all.ensures, c.loop-i.invariant, times_next c.args.items.now c.loop-i.i x.1 x.0 c.loop-i-test.true c.item_at-count.ensures)

pub returns : goal.returns
returns c = c.loop-i.invariant ∙ ap (sum_by (times_of 3)) (items_all c.args.items.now c.loop-i.i (omega arith))
