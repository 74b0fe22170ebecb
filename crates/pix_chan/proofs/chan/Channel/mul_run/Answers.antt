use Rattle.std.proofs.Common.{sym, arith, map}
use Rattle.pix_chan.specs.Product.{channel_product}
use Rattle.pix_chan.proofs.Slices.{over-nil, paired_step, paired_whole}
use Rattle.pix_chan.proofs.chan.Channel.mul_run.Goals as goal

pub loop-i-init : goal.loop-i-init
loop-i-init g c = sym (over-nil (channel_product g.Self.Channel.max) (map g.Self.Channel.number c.args.dst.now))

pub loop-i-preserved : goal.loop-i-preserved
loop-i-preserved g c =
    paired_step g.Self.Channel.number (channel_product g.Self.Channel.max) c.args.dst.now c.loop-i.dst c.args.by.now c.loop-i.i c.mul.result c.index-dst-i.result c.index-by-i.result
    c.loop-i.invariant (omega arith) (omega arith) c.index-dst-i.is c.index-by-i.is
    (g.met.Self.Channel.multiplies c.index-dst-i.result c.index-by-i.result c.mul.result c.mul.ensures)

pub returns : goal.returns
returns g c = paired_whole g.Self.Channel.number (channel_product g.Self.Channel.max) c.args.dst.now c.loop-i.dst c.args.by.now c.loop-i.i c.loop-i.invariant (omega arith)
