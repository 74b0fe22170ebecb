use Rattle.std.proofs.Common.{◌+◌, arith}
use Rattle.pix_scale.proofs.Kernels.{nearest_within}
use Rattle.pix_scale.proofs.Terms.{made_none, made_more}
use Rattle.pix_scale.proofs.points.middles.Goals as goal

pub loop-i-init : goal.loop-i-init
loop-i-init c = made_none _ _

pub loop-i-preserved : goal.loop-i-preserved
loop-i-preserved c = made_more _ _ _ _ (omega arith) c.loop-i.invariant c.middle.ensures.value

pub returns : goal.returns
returns c = record {
  places = λ k lt. c.loop-i.invariant.at k (omega arith);
  inside = λ k lt.
      let in_ = nearest_within c.args.side.places c.args.size c.args.side.n c.args.side.m (c.args.at + k) c.requires.side (omega arith) in
      omega (arith, c.loop-i.invariant.at k (omega arith), in_);
}
