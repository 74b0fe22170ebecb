use Rattle.std.proofs.Common.{sym, map}
use Rattle.pix_ops.proofs.RunTerms.{as_they_are}
use Rattle.pix_ops.proofs.ops.factor.OneFactor.scale.Goals as goal

pub returns : goal.returns
returns g c =
    let v = g.C.Channel.number in
    sym (as_they_are (map v c.args._alpha1.now) (map v c.args.channels.now))
