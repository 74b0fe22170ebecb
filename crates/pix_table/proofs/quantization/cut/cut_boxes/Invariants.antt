-- What holds at each turn of the loop over `count` in `cut_boxes`.
use Rattle.std.proofs.Common.{map, take}
use Rattle.pix_table.specs.quantization.Items.{weigh_items}
use Rattle.pix_table.specs.quantization.Cut.{AreBoxesBy}
use Rattle.pix_table.specs.quantization.Pieces.{ArePieces, boxes_of}
use Rattle.pix_table.proofs.quantization.cut.cut_boxes.Given as goal

-- the first pieces are boxes of the colors
abbrev pub invariant-loop-count : goal.invariant-loop-count
invariant-loop-count g l = record {
  stand : ArePieces g.C.Counted.channels (weigh_items g.C.Counted.channels g.C.Sums.BoxSums.weigh) g.I.Item.numbers l.items (take l.count l.pieces);
  boxes : AreBoxesBy g.C.Counted.channels (weigh_items g.C.Counted.channels g.C.Sums.BoxSums.weigh) (map g.I.Item.numbers l.fn.items)
      (boxes_of g.I.Item.numbers l.items (take l.count l.pieces));
}
