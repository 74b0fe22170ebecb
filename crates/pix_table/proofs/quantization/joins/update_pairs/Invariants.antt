-- What holds at each turn of the loop over `k` in `update_pairs`.
use Rattle.std.proofs.Common.{◌≡◌, ℕ, List, ◌+◌, ◌<◌, ◌≤◌, length, get_or}
use Rattle.pix_table.specs.quantization.ColorGroups.{IsGroup}
use Rattle.pix_table.specs.quantization.Pairs.{AreGroupsOf, ArePairsWithout, IsJoinOf, IsPairOf}
use Rattle.pix_table.specs.declared.quantization.joins.Pair.{Pair}
use Rattle.pix_table.proofs.quantization.joins.update_pairs.Given as goal

-- the first k pairs are those of the boxes as they are now, the others are as they were
abbrev pub invariant-loop-k : goal.invariant-loop-k
invariant-loop-k g l = record {
  are : (old new : List (List (List ℕ))) → IsJoinOf old new l.i l.j → AreGroupsOf (IsGroup g.S.BoxSums.are g.S.BoxSums.weigh) new l.groups l.count
      → ArePairsWithout g.S.BoxSums.weigh old l.j l.fn.pairs
      → (m : ℕ) (d : Pair) → m < l.k → m + 1 < length new → IsPairOf g.S.BoxSums.weigh new m (get_or l.pairs m d);
  rest : (m : ℕ) (d : Pair) → l.k ≤ m → get_or l.pairs m d ≡ get_or l.fn.pairs m d;
}
