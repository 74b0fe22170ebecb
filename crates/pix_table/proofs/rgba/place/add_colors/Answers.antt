-- Of `add_colors`: that the sums are those of one color more after each turn.
use Rattle.std.proofs.Common.{get_or, map}
use Rattle.std.proofs.lemmas.List.{get_or_default}
use Rattle.pix_table.specs.declared.rgba.color.SeenColor.{SeenColor}
use Rattle.pix_table.proofs.lemmas.quantization.SeenColors.{added_color, color_next, next_color}
use Rattle.pix_table.proofs.rgba.place.add_colors.Goals as goal

abbrev clear : SeenColor
clear = record { red = 0; green = 0; blue = 0; alpha = 0 }

pub add_color-requires-clause-sums : goal.add_color-requires-clause-sums
add_color-requires-clause-sums g c =
    let xs = c.args.colors.now in
    added_color xs c.loop-i.i (get_or xs c.loop-i.i clear) c.loop-i-test.true (get_or_default xs c.loop-i.i clear _ c.loop-i-test.true) 0
    (map g.S.PartSums.whole c.loop-i.reds) g.S.PartSums.limit c.requires.seen c.requires.few c.loop-i.invariant.reds

pub add_color-requires-clause-seen : goal.add_color-requires-clause-seen
add_color-requires-clause-seen g c =
    let xs = c.args.colors.now in
    next_color xs c.loop-i.i (get_or xs c.loop-i.i clear) c.loop-i-test.true (get_or_default xs c.loop-i.i clear _ c.loop-i-test.true) c.requires.seen

pub add_color-requires-in-loop-i-clause-sums : goal.add_color-requires-in-loop-i-clause-sums
add_color-requires-in-loop-i-clause-sums g c =
    let xs = c.args.colors.now in
    added_color xs c.loop-i.i (get_or xs c.loop-i.i clear) c.loop-i-test.true (get_or_default xs c.loop-i.i clear _ c.loop-i-test.true) 1
    (map g.S.PartSums.whole c.loop-i.greens) g.S.PartSums.limit c.requires.seen c.requires.few c.loop-i.invariant.greens

pub add_color-requires-in-loop-i-clause-seen : goal.add_color-requires-in-loop-i-clause-seen
add_color-requires-in-loop-i-clause-seen g c =
    let xs = c.args.colors.now in
    next_color xs c.loop-i.i (get_or xs c.loop-i.i clear) c.loop-i-test.true (get_or_default xs c.loop-i.i clear _ c.loop-i-test.true) c.requires.seen

pub add_color-requires-in-loop-i-2-clause-sums : goal.add_color-requires-in-loop-i-2-clause-sums
add_color-requires-in-loop-i-2-clause-sums g c =
    let xs = c.args.colors.now in
    added_color xs c.loop-i.i (get_or xs c.loop-i.i clear) c.loop-i-test.true (get_or_default xs c.loop-i.i clear _ c.loop-i-test.true) 2
    (map g.S.PartSums.whole c.loop-i.blues) g.S.PartSums.limit c.requires.seen c.requires.few c.loop-i.invariant.blues

pub add_color-requires-in-loop-i-2-clause-seen : goal.add_color-requires-in-loop-i-2-clause-seen
add_color-requires-in-loop-i-2-clause-seen g c =
    let xs = c.args.colors.now in
    next_color xs c.loop-i.i (get_or xs c.loop-i.i clear) c.loop-i-test.true (get_or_default xs c.loop-i.i clear _ c.loop-i-test.true) c.requires.seen

pub add_color-requires-in-loop-i-3-clause-sums : goal.add_color-requires-in-loop-i-3-clause-sums
add_color-requires-in-loop-i-3-clause-sums g c =
    let xs = c.args.colors.now in
    added_color xs c.loop-i.i (get_or xs c.loop-i.i clear) c.loop-i-test.true (get_or_default xs c.loop-i.i clear _ c.loop-i-test.true) 3
    (map g.S.PartSums.whole c.loop-i.alphas) g.S.PartSums.limit c.requires.seen c.requires.few c.loop-i.invariant.alphas

pub add_color-requires-in-loop-i-3-clause-seen : goal.add_color-requires-in-loop-i-3-clause-seen
add_color-requires-in-loop-i-3-clause-seen g c =
    let xs = c.args.colors.now in
    next_color xs c.loop-i.i (get_or xs c.loop-i.i clear) c.loop-i-test.true (get_or_default xs c.loop-i.i clear _ c.loop-i-test.true) c.requires.seen

pub loop-i-preserved : goal.loop-i-preserved
loop-i-preserved g c =
    let xs = c.args.colors.now in
    let next = color_next xs c.loop-i.i (get_or xs c.loop-i.i clear) c.loop-i-test.true (get_or_default xs c.loop-i.i clear _ c.loop-i-test.true) in
    record {
      reds = next 0 (map g.S.PartSums.whole c.add_color.new.parts) (c.add_color.ensures _ c.loop-i.invariant.reds);
      greens = next 1 (map g.S.PartSums.whole c.add_color-in-loop-i.new.parts) (c.add_color-in-loop-i.ensures _ c.loop-i.invariant.greens);
      blues = next 2 (map g.S.PartSums.whole c.add_color-in-loop-i-2.new.parts) (c.add_color-in-loop-i-2.ensures _ c.loop-i.invariant.blues);
      alphas = next 3 (map g.S.PartSums.whole c.add_color-in-loop-i-3.new.parts) (c.add_color-in-loop-i-3.ensures _ c.loop-i.invariant.alphas);
    }
