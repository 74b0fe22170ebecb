use Rattle.std.proofs.Common.{arith}
use Rattle.pix_chan.proofs.Pairs.{last_are}
use Rattle.pix_chan.proofs.chan.bits8.pairs.twice_last.Goals as goal

pub returns : goal.returns
returns c = last_are c.args.pixels (omega arith) c.fits-pixels.1
