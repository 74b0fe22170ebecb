use Rattle.std.proofs.Common.{List, ◌-◌, arith, ap, map}
use Rattle.pix_chan.specs.declared.chan.bits16.Ch16.{Ch16}
use Rattle.pix_chan.proofs.Sixteen.{whole16}
use Rattle.pix_chan.proofs.chan.bits16.Ch16Channel.complement16.Goals as goal

pub returns : goal.returns
returns c =
    ap (λ (l : List Ch16). map (λ x. 65535 - x) (map (λ (x : Ch16). x.value) l))
    (whole16 c.args.plane c.index-p-0.result c.index-p-1.result c.index-p-2.result c.index-p-3.result c.index-p-4.result c.index-p-5.result c.index-p-6.result c.index-p-7.result c.index-p-8.result c.index-p-9.result c.index-p-10.result c.index-p-11.result c.index-p-12.result c.index-p-13.result c.index-p-14.result c.index-p-15.result (omega arith))
