-- What holds at each turn of the loop over `i` in `composite_hues`.
use Rattle.std.proofs.Common.{◌≡◌, take, map}
use Rattle.pix_chan.specs.Runs.{over, triples}
use Rattle.pix_el.specs.Planes.{run_hue}
use Rattle.pix_el.proofs.planes.composite_hues.Given as goal

abbrev pub invariant-loop-i : goal.invariant-loop-i
invariant-loop-i g l =
    let v = g.C.Channel.number in
    map v l.dst ≡ over (run_hue g.C.Channel.max g.O.Blend.op) (take l.i (triples (map v l.da1) (map v l.src) (map v l.sa1))) (map v l.fn.dst)
