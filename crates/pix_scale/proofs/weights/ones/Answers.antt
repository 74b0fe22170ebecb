use Rattle.std.proofs.Common.{arith, refl}
use Rattle.pix_scale.proofs.Terms.{made_none, made_more}
use Rattle.pix_scale.proofs.weights.ones.Goals as goal

pub loop-k-init : goal.loop-k-init
loop-k-init c = made_none _ _

pub loop-k-preserved : goal.loop-k-preserved
loop-k-preserved c = made_more _ _ _ _ (omega arith) c.loop-k.invariant refl

pub returns : goal.returns
returns c = λ k lt. c.loop-k.invariant.at k (omega arith)
