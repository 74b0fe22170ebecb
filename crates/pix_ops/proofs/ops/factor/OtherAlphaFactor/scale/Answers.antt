use Rattle.std.proofs.Common.{length, map, ap, ◌∙◌, ◌-◌}
use Rattle.pix_ops.proofs.RunTerms.{by_complements, front_of}
use Rattle.pix_ops.proofs.ops.factor.OtherAlphaFactor.scale.Goals as goal

pub returns : goal.returns
returns g c =
    let v = g.C.Channel.number in
    let m = g.C.Channel.max in
    let copied = c.copy_from_slice in
    let alphas = front_of v (λ x. m - x) (length c.args.channels.now) copied.new.self _ c.complement32.result (ap length copied.ensures.after ∙ c.requires.same) c.complement32.ensures in
    rw (c.mul_run.ensures, alphas, copied.ensures.after) (by_complements m (map v c.args.alpha1.now) (map v c.args.channels.now))
