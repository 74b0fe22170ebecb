-- What holds at each turn of the loop over `k` in `Blend::composite_run`.
use Rattle.std.proofs.Common.{◌≡◌, ◌*◌, take, map, min}
use Rattle.pix_chan.specs.Runs.{over, triples}
use Rattle.pix_ops.specs.Composite.{run_composite}
use Rattle.pix_ops.proofs.ops.Blend.composite_run.Given as goal

abbrev pub invariant-loop-k : goal.invariant-loop-k
invariant-loop-k g l =
    let v = g.C.Channel.number in
    map v l.dst ≡ over (run_composite g.C.Channel.max g.Self.Blend.op)
    (take (min (32 * l.k) l.count) (triples (map v l.da1) (map v l.src) (map v l.sa1))) (map v l.fn.dst)
