use Rattle.std.proofs.Common.{arith}
use Rattle.pix_scale.proofs.SignedSums.{taken_none, taken_more}
use Rattle.pix_scale.proofs.signed_rows.take_away.Goals as goal

pub overflow_add-sums : goal.overflow_add-sums
overflow_add-sums c =
    record { fits = omega (arith, c.requires.sums c.loop-x.x (omega arith), c.loop-x.invariant.rest c.loop-x.x (omega arith)) }

pub overflow_sub-sums : goal.overflow_sub-sums
overflow_sub-sums c = omega (arith, c.requires.taken c.loop-x.x (omega arith))

pub loop-x-init : goal.loop-x-init
loop-x-init c = taken_none _ _

pub loop-x-preserved : goal.loop-x-preserved
loop-x-preserved c =
    taken_more _ _ _ _ _ (omega arith) c.loop-x.invariant (omega (arith, c.requires.taken c.loop-x.x (omega arith)))

pub returns : goal.returns
returns c = λ x lt. c.loop-x.invariant.done x (omega arith)
