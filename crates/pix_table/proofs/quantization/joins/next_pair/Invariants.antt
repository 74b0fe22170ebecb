-- What holds at each turn of the loop over `k` in `next_pair`.
use Rattle.std.proofs.Common.{ℕ, ◌<◌, ◌≤◌, get_or}
use Rattle.pix_table.specs.declared.quantization.joins.Pair.{Pair}
use Rattle.pix_table.proofs.quantization.joins.next_pair.Given as goal

-- of the first k pairs the best is the first that costs least
abbrev pub invariant-loop-k : goal.invariant-loop-k
invariant-loop-k l = record {
  within : l.best < l.k;
  least : (m : ℕ) (d : Pair) → m < l.k → (get_or l.pairs l.best d).cost ≤ (get_or l.pairs m d).cost;
  first : (m : ℕ) (d : Pair) → m < l.best → (get_or l.pairs l.best d).cost < (get_or l.pairs m d).cost;
}
