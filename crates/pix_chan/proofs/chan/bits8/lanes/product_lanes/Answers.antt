use Rattle.std.proofs.Common.{arith}
use Rattle.pix_chan.proofs.Pairs.{rejoined, picked8}
use Rattle.pix_chan.proofs.chan.bits8.lanes.product_lanes.Goals as goal

pub returns : goal.returns
returns c = rejoined 8 picked8 c.args.a c.args.b (omega arith) (omega arith) c.fits-a.1 c.fits-b.1 c.near-even.ensures c.near-odd.ensures
