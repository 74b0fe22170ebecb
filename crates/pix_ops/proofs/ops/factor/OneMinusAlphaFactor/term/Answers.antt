use Rattle.std.proofs.Common.{◌≡◌, ◌-◌, ap, ◌∙◌, arith}
use Rattle.pix_chan.specs.Product.{channel_product}
use Rattle.pix_ops.proofs.ops.factor.OneMinusAlphaFactor.term.Goals as goal

pub returns : goal.returns
returns g c =
    let v = g.C.Channel.number in
    let m = g.C.Channel.max in
    let channel = g.met.C.Channel in
    let itself : v c.args.alpha1 ≡ m - (m - v c.args.alpha1) = omega (arith, channel.numbered.fits c.args.alpha1) in
    channel.multiplies c.args.c c.args.alpha1 c.mul.result c.mul.ensures ∙ ap (channel_product m (v c.args.c)) itself
