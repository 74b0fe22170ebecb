use Rattle.std.proofs.Common.{arith, sym}
use Rattle.pix_chan.proofs.Planes.{both_picked}
use Rattle.pix_chan.proofs.chan.bits8.planes.join_two.Goals as goal

pub returns : goal.returns
returns c = sym (both_picked c.args.one c.args.two (omega arith) (omega arith))
