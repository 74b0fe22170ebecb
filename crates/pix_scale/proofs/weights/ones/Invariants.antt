-- What holds at each turn of the loop over `k` in `ones`.
use Rattle.pix_scale.proofs.Terms.{Made}
use Rattle.pix_scale.proofs.weights.ones.Given as goal

-- the numbers below k are written
abbrev pub invariant-loop-k : goal.invariant-loop-k
invariant-loop-k l = Made l.row (λ k. 1) l.k
