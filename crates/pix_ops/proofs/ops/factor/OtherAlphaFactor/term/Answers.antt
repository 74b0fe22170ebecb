use Rattle.std.proofs.Common.{◌≡◌, ◌-◌, ap, ◌∙◌, refl}
use Rattle.pix_ops.proofs.ops.factor.OtherAlphaFactor.term.Goals as goal

pub returns : goal.returns
returns g c =
    let v = g.C.Channel.number in
    let channel = g.met.C.Channel in
    let greatest : v c.MAX.result ≡ g.C.Channel.max = ap v c.MAX.ensures ∙ channel.max_is_maximum in
    let rest : v c.sub.result ≡ v c.MAX.result - v c.args.alpha1 = channel.differs c.MAX.result c.args.alpha1 c.sub.result c.sub.ensures in
    channel.multiplies c.args.c c.sub.result c.mul.result c.mul.ensures ∙ rw (rest, greatest) refl
