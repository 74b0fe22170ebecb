use Rattle.std.proofs.Common.{arith}
use Rattle.pix_raster.proofs.Samples.{same_more, same_all}
use Rattle.pix_raster.proofs.raster.samples.write_samples.Goals as goal

pub loop-i-preserved : goal.loop-i-preserved
loop-i-preserved g c =
    same_more g.S.Sample.number g.C.Channel.number c.loop-i.samples c.args.channels.now c.loop-i.i c.of.result c.index-channels-i.result (omega arith) (omega arith)
    c.index-channels-i.is c.of.ensures c.loop-i.invariant

pub returns : goal.returns
returns g c = same_all g.S.Sample.number g.C.Channel.number c.loop-i.samples c.args.channels.now c.loop-i.i (omega arith) (omega arith) c.loop-i.invariant
