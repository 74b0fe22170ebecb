-- What holds at each turn of the loop over `i` in `middles`.
use Rattle.std.proofs.Common.{◌+◌}
use Rattle.pix_scale.proofs.Terms.{Made}
use Rattle.pix_scale.proofs.Places.{nearest_place}
use Rattle.pix_scale.proofs.points.middles.Given as goal

-- the places below i are written
abbrev pub invariant-loop-i : goal.invariant-loop-i
invariant-loop-i l = Made l.firsts (λ k. nearest_place l.side.n l.side.m (l.at + k)) l.i
