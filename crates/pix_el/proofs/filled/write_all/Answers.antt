use Rattle.std.proofs.Common.{arith, refl}
use Rattle.pix_el.proofs.Written.{written_none, written_more, written_same}
use Rattle.pix_el.proofs.filled.write_all.Goals as goal

pub loop-place-init : goal.loop-place-init
loop-place-init g c = written_none _ _ _

pub loop-place-preserved : goal.loop-place-preserved
loop-place-preserved g c = written_more _ _ _ _ c.loop-place.place-index _ c.loop-place.invariant (omega arith) refl

pub returns : goal.returns
returns g c = written_same _ _ _ _ c.loop-place.place-index c.loop-place.invariant (omega arith)
