-- What holds at each turn of the loop over `done` in `join_boxes`.
use Rattle.std.proofs.Common.{◌≡◌, ℕ, List, ◌-◌, ◌<◌}
use Rattle.pix_table.specs.quantization.ColorGroups.{IsGroup}
use Rattle.pix_table.specs.quantization.Joins.{AreJoinedBy}
use Rattle.pix_table.specs.quantization.Pairs.{AreGroupsOf, ArePairs, all_colors}
use Rattle.pix_table.proofs.quantization.joins.join_boxes.Given as goal

-- so many of the boxes are joined, and have the pairs
abbrev pub invariant-loop-done : goal.invariant-loop-done
invariant-loop-done g l =
    (boxes : List (List (List ℕ))) → AreGroupsOf (IsGroup g.S.BoxSums.are g.S.BoxSums.weigh) boxes l.fn.groups l.count → all_colors boxes < 18446744073709551616
    → (joined : List (List (List ℕ))) × AreJoinedBy g.S.BoxSums.weigh boxes joined × AreGroupsOf (IsGroup g.S.BoxSums.are g.S.BoxSums.weigh) joined l.groups (l.count - l.done)
    × ArePairs g.S.BoxSums.weigh joined l.pairs × (all_colors joined ≡ all_colors boxes)
