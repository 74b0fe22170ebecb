use Rattle.std.proofs.Common.{arith}
use Rattle.pix_chan.specs.declared.chan.bits16.Ch16.{Ch16}
use Rattle.pix_el.proofs.LightBlocks.{mapped16}
use Rattle.pix_el.proofs.light.blocks.units.Goals as goal

pub returns : goal.returns
returns c =
    mapped16 (λ (x : Ch16). x.value) c.args.c _ _ _ _ _ _ _ _ _ _ _ _ _ _ _ _ (omega arith)
    c.from.ensures c.from-2.ensures c.from-3.ensures c.from-4.ensures c.from-5.ensures c.from-6.ensures c.from-7.ensures c.from-8.ensures
    c.from-9.ensures c.from-10.ensures c.from-11.ensures c.from-12.ensures c.from-13.ensures c.from-14.ensures c.from-15.ensures c.from-16.ensures
