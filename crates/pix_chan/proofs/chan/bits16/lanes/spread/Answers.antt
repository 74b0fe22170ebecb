use Rattle.std.proofs.Common.{arith}
use Rattle.pix_chan.proofs.Words.{spread_are}
use Rattle.pix_chan.proofs.chan.bits16.lanes.spread.Goals as goal

pub returns : goal.returns
returns c = spread_are c.args.pixels (omega arith) c.fits-pixels.1
