-- What holds at each turn of the loop over `i` in `write_means`.
use Rattle.std.proofs.Common.{◌≡◌, List, ℕ, map, take}
use Rattle.pix_table.specs.quantization.ColorGroups.{IsGroup}
use Rattle.pix_table.specs.quantization.Pairs.{AreGroupsOf}
use Rattle.pix_table.proofs.quantization.cut.write_means.Given as goal

-- the first i entries are the means of the first i boxes
abbrev pub invariant-loop-i : goal.invariant-loop-i
invariant-loop-i g l =
    (boxes : List (List (List ℕ))) → AreGroupsOf (IsGroup g.C.Sums.BoxSums.are g.C.Sums.BoxSums.weigh) boxes l.groups l.count
    → map g.C.Counted.parts (take l.i l.entries) ≡ map g.C.Cutting.middle (take l.i boxes)
