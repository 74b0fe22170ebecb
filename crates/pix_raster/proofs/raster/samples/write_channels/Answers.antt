use Rattle.std.proofs.Common.{arith}
use Rattle.pix_raster.proofs.Samples.{same_more, same_all}
use Rattle.pix_raster.proofs.raster.samples.write_channels.Goals as goal

pub loop-i-preserved : goal.loop-i-preserved
loop-i-preserved g c =
    same_more g.C.Channel.number g.S.Sample.number c.loop-i.channels c.args.samples.now c.loop-i.i c.channel.result c.index-samples-i.result (omega arith) (omega arith)
    c.index-samples-i.is c.channel.ensures c.loop-i.invariant

pub returns : goal.returns
returns g c = same_all g.C.Channel.number g.S.Sample.number c.loop-i.channels c.args.samples.now c.loop-i.i (omega arith) (omega arith) c.loop-i.invariant
