use Rattle.std.proofs.Common.{arith}
use Rattle.pix_scale.proofs.Terms.{made_none}
use Rattle.pix_scale.proofs.weights.overlaps.Goals as goal

pub loop-k-init : goal.loop-k-init
loop-k-init c = made_none _ _

pub returns : goal.returns
returns c = λ k lt. c.loop-k.invariant.at k (omega arith)
