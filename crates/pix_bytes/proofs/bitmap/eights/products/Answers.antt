use Rattle.std.proofs.Common.{arith}
use Rattle.pix_chan.proofs.Pairs.{rejoined, picked16}
use Rattle.pix_bytes.proofs.bitmap.eights.products.Goals as goal

pub returns : goal.returns
returns c = rejoined 16 picked16 c.args.a c.args.b (omega arith) (omega arith) c.fits-a.1 c.fits-b.1 c.near-even.ensures c.near-odd.ensures
