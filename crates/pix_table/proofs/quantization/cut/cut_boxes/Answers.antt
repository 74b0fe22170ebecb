-- Of `cut_boxes`: that all colors are one box at first, and that the condition on them still holds.
use Rattle.std.proofs.Common.{map, take, sym, subst}
use Rattle.std.proofs.lemmas.List.{take_more_set}
use Rattle.pix_table.specs.quantization.Items.{times_of, weigh_items}
use Rattle.pix_table.specs.quantization.Cut.{AreBoxesBy}
use Rattle.pix_table.specs.quantization.Pieces.{ArePieces, boxes_of}
use Rattle.pix_table.proofs.lemmas.quantization.CutColors.{boxes_few, boxes_fit}
use Rattle.pix_table.proofs.lemmas.quantization.PieceBoxes.{one_stands, one_box}
use Rattle.pix_table.proofs.quantization.cut.cut_boxes.Goals as goal

pub loop-count-init : goal.loop-count-init
loop-count-init g c = record {
  stand = subst (ArePieces g.C.Counted.channels (weigh_items g.C.Counted.channels g.C.Sums.BoxSums.weigh) g.I.Item.numbers c.args.items.now)
      (sym (take_more_set c.args.pieces.now 0 c.of.result c.requires.room))
      (one_stands g.I.Item.numbers g.C.Counted.channels (weigh_items g.C.Counted.channels g.C.Sums.BoxSums.weigh) c.args.items.now c.of.result c.requires.some c.of.ensures.all c.of.ensures.known);
  boxes = subst
      (λ l. AreBoxesBy g.C.Counted.channels (weigh_items g.C.Counted.channels g.C.Sums.BoxSums.weigh) (map g.I.Item.numbers c.args.items.now) (boxes_of g.I.Item.numbers c.args.items.now l))
      (sym (take_more_set c.args.pieces.now 0 c.of.result c.requires.room))
      (one_box g.I.Item.numbers g.C.Counted.channels (weigh_items g.C.Counted.channels g.C.Sums.BoxSums.weigh) c.args.items.now c.of.result c.requires.some c.of.ensures.all);
}

pub cut_next-is_cut-requires-clause-fit : goal.cut_next-is_cut-requires-clause-fit
cut_next-is_cut-requires-clause-fit g c =
    boxes_fit g.C.Cutting.fits g.I.Item.numbers (map g.I.Item.numbers c.args.items.now) c.loop-count.items (take c.loop-count.count c.loop-count.pieces)
    c.loop-count.invariant.boxes c.loop-count.invariant.stand.all c.requires.fit

pub cut_next-is_cut-requires-clause-few_colors : goal.cut_next-is_cut-requires-clause-few_colors
cut_next-is_cut-requires-clause-few_colors g c =
    boxes_few (times_of g.C.Counted.channels) g.I.Item.numbers (map g.I.Item.numbers c.args.items.now) c.loop-count.items
    (take c.loop-count.count c.loop-count.pieces) _ c.loop-count.invariant.boxes c.loop-count.invariant.stand.all c.requires.few_colors
