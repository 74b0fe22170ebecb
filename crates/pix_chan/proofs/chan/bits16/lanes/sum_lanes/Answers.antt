use Rattle.std.proofs.Common.{arith}
use Rattle.pix_chan.proofs.Lanes16.{sums_of_words}
use Rattle.pix_chan.proofs.chan.bits16.lanes.sum_lanes.Goals as goal

pub returns : goal.returns
returns c = sums_of_words c.args.x c.args.y (omega arith) (omega arith) c.fits-x.1 c.fits-y.1
