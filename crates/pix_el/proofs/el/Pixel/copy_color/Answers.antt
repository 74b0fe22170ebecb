use Rattle.std.proofs.Common.{arith, refl}
use Rattle.pix_el.proofs.Written.{written_none, written_more, written_same}
use Rattle.pix_el.proofs.el.Pixel.copy_color.Goals as goal

pub loop-d-init : goal.loop-d-init
loop-d-init g c = written_none _ _ _

pub loop-d-preserved : goal.loop-d-preserved
loop-d-preserved g c = written_more _ _ _ _ c.loop-d.d-index _ c.loop-d.invariant (omega arith) refl

pub returns : goal.returns
returns g c = written_same _ _ _ _ c.loop-d.d-index c.loop-d.invariant (omega arith)
