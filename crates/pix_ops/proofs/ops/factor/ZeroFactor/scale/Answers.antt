-- Of `ZeroFactor::scale`: that the invariant of its loop over `i` holds at first and stays.
use Rattle.std.proofs.Common.{◌+◌, ◌∙◌, sym, ap, arith, map, refl, get_or}
use Rattle.std.proofs.lemmas.List.{length-map}
use Rattle.pix_chan.proofs.Slices.{over-nil, mapped_put_step}
use Rattle.pix_ops.proofs.ops.factor.ZeroFactor.scale.Goals as goal

pub loop-i-init : goal.loop-i-init
loop-i-init g c = sym (over-nil (λ x w. 0) (map g.C.Channel.number c.args.channels.now))

pub loop-i-preserved : goal.loop-i-preserved
loop-i-preserved g c =
    let v = g.C.Channel.number in
    mapped_put_step v (λ w. 0) c.loop-i.i (c.loop-i.i + 1) c.args.channels.now c.loop-i.channels c.MIN.result (get_or (map v c.args._alpha1.now) c.loop-i.i 0) 0 (map v c.args._alpha1.now)
    c.loop-i.invariant refl (omega arith) (omega (arith, length-map c.args._alpha1.now v)) refl
    (ap v c.MIN.ensures ∙ g.met.C.Channel.min_is_zero)
