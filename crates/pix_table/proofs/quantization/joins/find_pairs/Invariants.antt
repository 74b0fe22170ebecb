-- What holds at each turn of the loop over `k` in `find_pairs`.
use Rattle.std.proofs.Common.{ℕ, List, ◌+◌, ◌<◌, length, get_or}
use Rattle.pix_table.specs.quantization.ColorGroups.{IsGroup}
use Rattle.pix_table.specs.quantization.Pairs.{AreGroupsOf, IsPairOf}
use Rattle.pix_table.specs.declared.quantization.joins.Pair.{Pair}
use Rattle.pix_table.proofs.quantization.joins.find_pairs.Given as goal

-- the first k pairs are those of the boxes
abbrev pub invariant-loop-k : goal.invariant-loop-k
invariant-loop-k g l =
    (boxes : List (List (List ℕ))) → AreGroupsOf (IsGroup g.S.BoxSums.are g.S.BoxSums.weigh) boxes l.groups l.count → (m : ℕ) (d : Pair) → m < l.k → m + 1 < length boxes
    → IsPairOf g.S.BoxSums.weigh boxes m (get_or l.pairs m d)
