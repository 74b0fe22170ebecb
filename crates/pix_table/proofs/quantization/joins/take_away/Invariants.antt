-- What holds at each turn of the loop over `k` in `take_away`.
use Rattle.std.proofs.Common.{◌≡◌, ℕ, ◌+◌, ◌<◌, ◌≤◌, get_or}
use Rattle.pix_table.specs.quantization.Pairs.{skip}
use Rattle.pix_table.proofs.quantization.joins.take_away.Given as goal

-- the items before k have come nearer, the others have not
abbrev pub invariant-loop-k : goal.invariant-loop-k
invariant-loop-k g l = record {
  moved : (m : ℕ) (d : g.row.T.Denot) → m + 1 < l.k → get_or l.items m d ≡ get_or l.fn.items (skip l.at m) d;
  rest : (m : ℕ) (d : g.row.T.Denot) → l.k ≤ m + 1 → get_or l.items m d ≡ get_or l.fn.items m d;
}
