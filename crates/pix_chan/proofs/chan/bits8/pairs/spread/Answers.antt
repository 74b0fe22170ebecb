use Rattle.std.proofs.Common.{arith}
use Rattle.pix_chan.proofs.Pairs.{spread_are}
use Rattle.pix_chan.proofs.chan.bits8.pairs.spread.Goals as goal

pub returns : goal.returns
returns c = spread_are c.args.pixels (omega arith) c.fits-pixels.1
