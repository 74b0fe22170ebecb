-- What holds at each turn of the loop over `k` in `sum_nearness`.
use Rattle.std.proofs.Common.{◌≡◌, ◌≤◌, ◌+◌, ◌*◌}
use Rattle.pix_scale.specs.Axis.{total, nearness}
use Rattle.pix_scale.proofs.weights.sum_nearness.Given as goal

-- the sum has the places before k, and is small
abbrev pub invariant-loop-k : goal.invariant-loop-k
invariant-loop-k l = record {
  value : l.sum ≡ total l.k (λ j. nearness l.n l.m l.i (l.first + j));
  small : l.sum ≤ 131070 * l.k;
}
