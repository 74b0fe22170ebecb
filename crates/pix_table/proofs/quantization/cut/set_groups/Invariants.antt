-- What holds at each turn of the loop over `i` in `set_groups`.
use Rattle.std.proofs.Common.{◌≡◌, map, take}
use Rattle.pix_table.specs.quantization.ColorGroups.{IsGroup}
use Rattle.pix_table.specs.quantization.Items.{spread}
use Rattle.pix_table.specs.quantization.Pairs.{AreGroupsOf}
use Rattle.pix_table.specs.quantization.Pieces.{boxes_of, total}
use Rattle.pix_table.proofs.quantization.cut.set_groups.Given as goal

-- what is kept of the first i boxes is set
abbrev pub invariant-loop-i : goal.invariant-loop-i
invariant-loop-i g l = record {
  start : l.start ≡ total (take l.i l.pieces);
  set : AreGroupsOf (IsGroup g.C.Sums.BoxSums.are g.C.Sums.BoxSums.weigh)
      (map (spread g.C.Counted.channels) (boxes_of g.I.Item.numbers l.items (take l.i l.pieces))) l.groups l.i;
}
