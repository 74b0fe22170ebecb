use Rattle.std.proofs.Common.{arith}
use Rattle.pix_scale.proofs.Written.{copied_none, copied_more}
use Rattle.pix_scale.proofs.points.copy_pixels.Goals as goal

pub loop-i-init : goal.loop-i-init
loop-i-init g c = copied_none _ _ _ _

pub loop-i-preserved : goal.loop-i-preserved
loop-i-preserved g c = copied_more _ _ _ _ _ _ (omega arith) (omega (arith, c.requires.inside c.loop-i.i (omega arith))) c.index-from-places.is c.loop-i.invariant

pub returns : goal.returns
returns g c = λ i lt. c.loop-i.invariant.at i (omega arith)
