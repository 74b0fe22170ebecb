use Rattle.std.proofs.Common.{arith}
use Rattle.pix_chan.proofs.Lanes.{sum_bytes}
use Rattle.pix_chan.proofs.chan.bits8.lanes.sum_lanes.Goals as goal

pub returns : goal.returns
returns c = sum_bytes 16 c.args.x c.args.y (omega arith) (omega arith) c.fits-x.1 c.fits-y.1
