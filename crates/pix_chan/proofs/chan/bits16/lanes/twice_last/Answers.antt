use Rattle.std.proofs.Common.{arith}
use Rattle.pix_chan.proofs.Words.{last_pairs}
use Rattle.pix_chan.proofs.chan.bits16.lanes.twice_last.Goals as goal

pub returns : goal.returns
returns c = last_pairs c.args.pixels (omega arith)
