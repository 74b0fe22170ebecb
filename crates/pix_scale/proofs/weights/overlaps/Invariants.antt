-- What holds at each turn of the loop over `k` in `overlaps`.
use Rattle.std.proofs.Common.{◌+◌}
use Rattle.pix_scale.specs.Axis.{overlap}
use Rattle.pix_scale.proofs.Terms.{Made}
use Rattle.pix_scale.proofs.weights.overlaps.Given as goal

-- the numbers below k are written
abbrev pub invariant-loop-k : goal.invariant-loop-k
invariant-loop-k l = Made l.row (λ k. overlap l.n l.m l.i (l.first + k)) l.k
