use Rattle.std.proofs.Common.{arith, ap, map}
use Rattle.pix_chan.specs.declared.chan.bits8.Ch8.{Ch8}
use Rattle.pix_chan.proofs.Sixteen.{whole16}
use Rattle.pix_chan.proofs.chan.bits8.lanes.units.Goals as goal

pub returns : goal.returns
returns c = ap (map (λ (x : Ch8). x.value)) (whole16 c.args.c.now c.index-c-0.result c.index-c-1.result c.index-c-2.result c.index-c-3.result c.index-c-4.result c.index-c-5.result c.index-c-6.result c.index-c-7.result c.index-c-8.result c.index-c-9.result c.index-c-10.result c.index-c-11.result c.index-c-12.result c.index-c-13.result c.index-c-14.result c.index-c-15.result (omega arith))
