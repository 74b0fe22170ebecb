-- What holds at each turn of the loop over `i` in `ZeroFactor::scale`.
use Rattle.std.proofs.Common.{◌≡◌, take, map}
use Rattle.pix_chan.specs.Runs.{over}
use Rattle.pix_ops.proofs.ops.factor.ZeroFactor.scale.Given as goal

abbrev pub invariant-loop-i : goal.invariant-loop-i
invariant-loop-i g l =
    let v = g.C.Channel.number in
    map v l.channels ≡ over (λ w x. 0) (take l.i (map v l._alpha1)) (map v l.fn.channels)
