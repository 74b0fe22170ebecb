-- Of `cut_groups`: its clauses `moved` and `boxes`.
use Rattle.std.proofs.Common.{◌++◌, map, take, drop, replicate, IsPermutation, arith, subst, length-take}
use Rattle.std.proofs.lemmas.List.{length-replicate, take-append-le}
use Rattle.pix_table.specs.quantization.Items.{times_of, weigh_items}
use Rattle.pix_table.specs.quantization.ColorGroups.{IsGroup}
use Rattle.pix_table.specs.quantization.Pieces.{boxes_of}
use Rattle.pix_table.proofs.lemmas.quantization.CutColors.{boxes_few, boxes_fit, boxes_moved, boxes_whole}
use Rattle.pix_table.proofs.lemmas.quantization.CutGroups.{boxes_made}
use Rattle.pix_table.proofs.quantization.cut.cut_groups.Goals as goal

pub set_groups-requires-clause-fit : goal.set_groups-requires-clause-fit
set_groups-requires-clause-fit g c =
    let pieces = take c.cut_boxes-count.result c.cut_boxes-count.new.pieces in
    boxes_fit g.C.Cutting.fits g.I.Item.numbers (map g.I.Item.numbers c.args.items.now) c.cut_boxes-count.new.items pieces
    c.cut_boxes-count.ensures.boxes c.cut_boxes-count.ensures.stand.all c.requires.fit

pub set_groups-requires-clause-few_colors : goal.set_groups-requires-clause-few_colors
set_groups-requires-clause-few_colors g c =
    let pieces = take c.cut_boxes-count.result c.cut_boxes-count.new.pieces in
    boxes_few (times_of g.C.Counted.channels) g.I.Item.numbers (map g.I.Item.numbers c.args.items.now) c.cut_boxes-count.new.items pieces _
    c.cut_boxes-count.ensures.boxes c.cut_boxes-count.ensures.stand.all c.requires.few_colors

pub returns-clause-moved : goal.returns-clause-moved
returns-clause-moved g c =
    let pieces = take c.cut_boxes-count.result c.cut_boxes-count.new.pieces in
    subst (IsPermutation (map g.I.Item.numbers c.args.items.now))
    (boxes_whole g.I.Item.numbers c.cut_boxes-count.new.items pieces c.cut_boxes-count.ensures.stand.all)
    (boxes_moved (map g.I.Item.numbers c.args.items.now) (boxes_of g.I.Item.numbers c.cut_boxes-count.new.items pieces) c.cut_boxes-count.ensures.boxes)

pub returns-clause-boxes : goal.returns-clause-boxes
returns-clause-boxes g c =
    boxes_made (IsGroup g.C.Sums.BoxSums.are g.C.Sums.BoxSums.weigh) g.I.Item.numbers g.C.Counted.channels (weigh_items g.C.Counted.channels g.C.Sums.BoxSums.weigh) c.args.room c.cut_boxes-count.result c.args.items.now
    c.cut_boxes-count.new.items c.cut_boxes-count.new.pieces
    (c.cut_boxes-count.new.pieces ++ drop c.min-more.result (replicate 320 c.none-pieces.result)) c.set_groups.new.groups
    (omega (
      arith,
      c.cut_boxes-count.auto.pieces,
      length-take c.min-more.result (replicate 320 c.none-pieces.result),
      length-replicate 320 c.none-pieces.result,
      c.min-more.ensures,
      c.requires.few,
    ))
    c.cut_boxes-count.ensures.within (take-append-le c.cut_boxes-count.result _ _ c.cut_boxes-count.ensures.within) c.cut_boxes-count.ensures.stand
    c.cut_boxes-count.ensures.boxes c.cut_boxes-count.ensures.full c.set_groups.ensures (boxes_few (times_of g.C.Counted.channels) g.I.Item.numbers (map g.I.Item.numbers c.args.items.now) c.cut_boxes-count.new.items
    (take c.cut_boxes-count.result c.cut_boxes-count.new.pieces) _ c.cut_boxes-count.ensures.boxes c.cut_boxes-count.ensures.stand.all c.requires.few_colors)
