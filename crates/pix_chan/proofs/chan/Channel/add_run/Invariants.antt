-- What holds at each turn of the loop over `i` in `Channel::add_run`.
use Rattle.std.proofs.Common.{◌≡◌, take, map}
use Rattle.pix_chan.specs.Runs.{over}
use Rattle.pix_chan.specs.Number.{saturating_sum}
use Rattle.pix_chan.proofs.chan.Channel.add_run.Given as goal

abbrev pub invariant-loop-i : goal.invariant-loop-i
invariant-loop-i g l =
    let n = g.Self.Channel.number in
    map n l.dst ≡ over (λ y x. saturating_sum g.Self.Channel.max x y) (take l.i (map n l.by)) (map n l.fn.dst)
