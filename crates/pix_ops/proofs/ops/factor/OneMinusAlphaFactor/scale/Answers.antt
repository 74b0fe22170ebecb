use Rattle.std.proofs.Common.{◌∙◌, map}
use Rattle.pix_ops.proofs.RunTerms.{by_themselves}
use Rattle.pix_ops.proofs.ops.factor.OneMinusAlphaFactor.scale.Goals as goal

pub returns : goal.returns
returns g c =
    let v = g.C.Channel.number in
    c.mul_run.ensures ∙ by_themselves g.C.Channel.max v g.met.C.Channel.numbered c.args.alpha1.now (map v c.args.channels.now)
