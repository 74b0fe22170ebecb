use Rattle.std.proofs.Common.{arith}
use Rattle.pix_scale.proofs.Terms.{made_none}
use Rattle.pix_scale.proofs.signed_weights.one_place.Goals as goal

pub loop-k-init : goal.loop-k-init
loop-k-init c = record { plus = made_none _ _; minus = made_none _ _ }

pub returns : goal.returns
returns c = record { plus = λ k lt. c.loop-k.invariant.plus.at k (omega arith); minus = λ k lt. c.loop-k.invariant.minus.at k (omega arith) }
