use Rattle.std.proofs.Common.{arith}
use Rattle.pix_chan.proofs.Lanes16.{sums_in_range, rests_in_range, raise_are}
use Rattle.pix_chan.proofs.chan.bits16.lanes.raise.Goals as goal

pub overflow_cast-result : goal.overflow_cast-result
overflow_cast-result c = sums_in_range c.args.low c.args.high (omega arith) (omega arith)

pub overflow_cast-result-2 : goal.overflow_cast-result-2
overflow_cast-result-2 c = rests_in_range c.args.low c.args.high (omega arith) (omega arith) c.fits-high.1

pub returns : goal.returns
returns c = raise_are c.args.low c.args.high (omega arith) (omega arith) c.fits-low.1 c.fits-high.1
