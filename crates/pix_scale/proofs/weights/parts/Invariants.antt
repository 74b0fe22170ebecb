-- What holds at each turn of the loop over `k` in `parts`.
use Rattle.std.proofs.Common.{◌≡◌, ◌+◌}
use Rattle.pix_scale.specs.Axis.{total, nearness}
use Rattle.pix_scale.proofs.Terms.{Made}
use Rattle.pix_scale.proofs.Kernels.{part_at}
use Rattle.pix_scale.proofs.weights.parts.Given as goal

-- the numbers below k are written, and the part is that of the places before k
abbrev pub invariant-loop-k : goal.invariant-loop-k
invariant-loop-k l = record {
  made : Made l.row (part_at l.n l.m l.i l.first l.sum) l.k;
  part : l.part ≡ total l.k (λ j. nearness l.n l.m l.i (l.first + j));
}
