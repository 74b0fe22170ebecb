use Rattle.std.proofs.Common.{arith}
use Rattle.pix_chan.specs.declared.chan.bits16.Ch16.{Ch16}
use Rattle.pix_chan.proofs.Sixteen.{odds_are}
use Rattle.pix_chan.proofs.chan.bits16.planes.odds.Goals as goal

pub returns : goal.returns
returns c = odds_are (λ (x : Ch16). x.value) c.args.a.now c.args.b.now c.index-a-1.result c.index-a-3.result c.index-a-5.result c.index-a-7.result c.index-a-9.result c.index-a-11.result c.index-a-13.result c.index-a-15.result c.index-b-1.result c.index-b-3.result c.index-b-5.result c.index-b-7.result c.index-b-9.result c.index-b-11.result c.index-b-13.result c.index-b-15.result (omega arith) (omega arith)
