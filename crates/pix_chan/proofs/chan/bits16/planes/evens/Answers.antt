use Rattle.std.proofs.Common.{arith}
use Rattle.pix_chan.specs.declared.chan.bits16.Ch16.{Ch16}
use Rattle.pix_chan.proofs.Sixteen.{evens_are}
use Rattle.pix_chan.proofs.chan.bits16.planes.evens.Goals as goal

pub returns : goal.returns
returns c = evens_are (λ (x : Ch16). x.value) c.args.a.now c.args.b.now c.index-a-0.result c.index-a-2.result c.index-a-4.result c.index-a-6.result c.index-a-8.result c.index-a-10.result c.index-a-12.result c.index-a-14.result c.index-b-0.result c.index-b-2.result c.index-b-4.result c.index-b-6.result c.index-b-8.result c.index-b-10.result c.index-b-12.result c.index-b-14.result (omega arith) (omega arith)
