-- What holds at each turn of the loop over `with` in `find_pair`.
use Rattle.std.proofs.Common.{ℕ, List}
use Rattle.pix_table.specs.quantization.ColorGroups.{IsGroup}
use Rattle.pix_table.specs.quantization.Joins.{cost_at}
use Rattle.pix_table.specs.quantization.Pairs.{AreGroupsOf, IsLeastAfter}
use Rattle.pix_table.proofs.quantization.joins.find_pair.Given as goal

-- the best is that of the pairs before `with`
abbrev pub invariant-loop-with : goal.invariant-loop-with
invariant-loop-with g l =
    (boxes : List (List (List ℕ))) → AreGroupsOf (IsGroup g.S.BoxSums.are g.S.BoxSums.weigh) boxes l.groups l.count
    → IsLeastAfter (cost_at g.S.BoxSums.weigh boxes l.k) l.k l.with l.best.cost l.best.with
