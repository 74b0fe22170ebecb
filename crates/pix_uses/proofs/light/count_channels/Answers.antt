use Rattle.std.proofs.Common.{arith}
use Rattle.pix_uses.proofs.LightAndBack.{counted_more, counted_all}
use Rattle.pix_uses.proofs.light.count_channels.Goals as goal

pub loop-i-preserved : goal.loop-i-preserved
loop-i-preserved g c =
    counted_more _ c.args.pixels.now c.loop-i.i g.row.N c.index-pixels-i.result (omega arith) c.index-pixels-i.is c.count_channels_of.ensures c.loop-i.invariant

pub returns : goal.returns
returns g c = counted_all _ c.args.pixels.now c.loop-i.i g.row.N (omega arith) c.loop-i.invariant
