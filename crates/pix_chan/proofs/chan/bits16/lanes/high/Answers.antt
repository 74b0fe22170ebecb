use Rattle.std.proofs.Common.{sym, subst, arith, Fits}
use mir.Syntax.{w16}
use lib.Lanes.{Each1}
use Rattle.pix_chan.proofs.Lanes.{pairs}
use Rattle.pix_chan.proofs.Lanes16.{tops_are, Each1-upper, high_are}
use Rattle.pix_chan.proofs.chan.bits16.lanes.high.Goals as goal

pub overflow_cast-result : goal.overflow_cast-result
overflow_cast-result c = subst (Each1 (Fits w16)) (sym (tops_are c.args.a c.args.b (omega arith) (omega arith))) (Each1-upper (pairs c.args.a c.args.b))

pub returns : goal.returns
returns c = high_are c.args.a c.args.b (omega arith) (omega arith) c.fits-a.1 c.fits-b.1
