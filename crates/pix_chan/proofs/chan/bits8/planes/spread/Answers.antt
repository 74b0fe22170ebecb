use Rattle.std.proofs.Common.{arith}
use Rattle.pix_chan.proofs.Sixteen.{spread_are}
use Rattle.pix_chan.proofs.chan.bits8.planes.spread.Goals as goal

pub returns : goal.returns
returns c = spread_are c.args.pixels (omega arith) c.fits-pixels.1
