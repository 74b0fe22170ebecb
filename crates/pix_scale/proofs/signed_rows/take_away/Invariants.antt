-- What holds at each turn of the loop over `x` in `take_away`.
use Rattle.pix_scale.proofs.SignedSums.{TakenAway}
use Rattle.pix_scale.proofs.signed_rows.take_away.Given as goal

-- the sums below x are written
abbrev pub invariant-loop-x : goal.invariant-loop-x
invariant-loop-x l = TakenAway l.initial.sums l.sums l.taken l.x
