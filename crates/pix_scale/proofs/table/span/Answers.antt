use Rattle.std.proofs.Common.{arith, below_more}
use Rattle.pix_scale.proofs.table.span.Goals as goal

pub loop-i-init : goal.loop-i-init
loop-i-init c = record {
  low = λ k h. absurd (omega arith);
  high = λ k h. absurd (omega arith);
  order = omega arith;
  within = c.requires.inside 0 c.requires.some;
}

pub loop-i-preserved : goal.loop-i-preserved
loop-i-preserved c =
    let in_ = c.requires.inside c.loop-i.i (omega arith) in
    record {
      low = below_more _ _ (λ k h. omega (arith, c.loop-i.invariant.low k h)) (omega arith);
      high = below_more _ _ (λ k h. omega (arith, c.loop-i.invariant.high k h)) (omega arith);
      order = omega (arith, c.loop-i.invariant.order);
      within = omega (arith, in_, c.loop-i.invariant.within);
    }

pub returns : goal.returns
returns c = record {
  low = λ k h. c.loop-i.invariant.low k (omega arith);
  high = λ k h. omega (arith, c.loop-i.invariant.high k (omega arith));
  order = omega (arith, c.loop-i.invariant.order);
  within = c.loop-i.invariant.within;
}
