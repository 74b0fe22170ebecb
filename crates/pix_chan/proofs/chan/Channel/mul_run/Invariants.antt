-- What holds at each turn of the loop over `i` in `Channel::mul_run`.
use Rattle.std.proofs.Common.{◌≡◌, take, map}
use Rattle.pix_chan.specs.Runs.{over}
use Rattle.pix_chan.specs.Product.{channel_product}
use Rattle.pix_chan.proofs.chan.Channel.mul_run.Given as goal

abbrev pub invariant-loop-i : goal.invariant-loop-i
invariant-loop-i g l =
    let n = g.Self.Channel.number in
    map n l.dst ≡ over (λ y x. channel_product g.Self.Channel.max x y) (take l.i (map n l.by)) (map n l.fn.dst)
