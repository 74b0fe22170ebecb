use Rattle.std.proofs.Common.{arith}
use Rattle.pix_chan.specs.declared.chan.bits16.Ch16.{Ch16}
use Rattle.pix_chan.proofs.Sixteen.{both_are}
use Rattle.pix_chan.proofs.chan.bits16.planes.both.Goals as goal

pub returns : goal.returns
returns c = both_are (λ (x : Ch16). x.value) c.args.a.now c.args.b.now c.index-a-0.result c.index-b-0.result c.index-a-1.result c.index-b-1.result c.index-a-2.result c.index-b-2.result c.index-a-3.result c.index-b-3.result c.index-a-4.result c.index-b-4.result c.index-a-5.result c.index-b-5.result c.index-a-6.result c.index-b-6.result c.index-a-7.result c.index-b-7.result (omega arith) (omega arith)
