-- What holds at each turn of the loops over `k` and `i` in `count`.
use Rattle.std.specs.Prelude.{nat_eq, count_by}
use Rattle.std.proofs.Common.{◌≡◌, ◌<◌, ℕ, length, take, get_or}
use Rattle.pix_table.proofs.packing.look.count_indices.Given as goal

-- the first k counts are 0
abbrev pub invariant-loop-k : goal.invariant-loop-k
invariant-loop-k l = (j : ℕ) → j < l.k → get_or l.counts j 0 ≡ 0

-- the indices below i are counted
abbrev pub invariant-loop-i : goal.invariant-loop-i
invariant-loop-i l = (j : ℕ) → j < length l.counts → get_or l.counts j 0 ≡ count_by (λ i. nat_eq i j) (take l.i l.indices)
