-- What holds at each turn of the loop over `k` in `tents`.
use Rattle.std.proofs.Common.{◌+◌, ◌-◌, ◌*◌}
use Rattle.std.specs.Int.{abs_diff}
use Rattle.pix_scale.proofs.Terms.{Made}
use Rattle.pix_scale.proofs.weights.tents.Given as goal

-- the numbers below k are written
abbrev pub invariant-loop-k : goal.invariant-loop-k
invariant-loop-k l = Made l.row (λ k. 2 * l.m - abs_diff ((2 * (l.first + k) + 1) * l.m) l.at) l.k
