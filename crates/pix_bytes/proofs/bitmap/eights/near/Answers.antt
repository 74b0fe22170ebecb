use Rattle.std.proofs.Common.{arith}
use Rattle.pix_chan.proofs.Pairs.{halves_fit, near_are}
use Rattle.pix_bytes.proofs.bitmap.eights.near.Goals as goal

pub overflow_cast-result : goal.overflow_cast-result
overflow_cast-result c = halves_fit 16 c.args.a c.args.b (omega arith) (omega arith)

pub returns : goal.returns
returns c = near_are 16 c.args.a c.args.b (omega arith) (omega arith)
