use Rattle.std.proofs.Common.{arith}
use Rattle.std.proofs.lemmas.Simd.{pick_l_whole}
use Rattle.pix_chan.proofs.chan.bits8.lanes.channels.Goals as goal

pub returns : goal.returns
returns c = pick_l_whole 0 c.args.v 16 (omega arith)
