use Rattle.std.proofs.Common.{arith, refl, ◌+◌}
use Rattle.pix_scale.specs.Axis.{nearness}
use Rattle.pix_scale.proofs.Sums.{total_next}
use Rattle.pix_scale.proofs.weights.sum_nearness.Goals as goal

pub loop-k-init : goal.loop-k-init
loop-k-init c = record { value = refl; small = omega arith }

pub loop-k-preserved : goal.loop-k-preserved
loop-k-preserved c = record {
  value = omega (arith, c.loop-k.invariant.value, c.nearness-sum.ensures.value, total_next c.loop-k.k (λ j. nearness c.args.n c.args.m c.args.i (c.args.first + j)));
  small = omega (arith, c.loop-k.invariant.small, c.nearness-sum.ensures.small);
}
