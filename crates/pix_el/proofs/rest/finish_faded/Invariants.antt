-- What holds at each turn of the loop over `i` in `finish_faded`.
use Rattle.std.proofs.Common.{◌≡◌, take, map}
use Rattle.pix_chan.specs.Runs.{over}
use Rattle.pix_el.specs.PixelComposite.{matted_composite}
use Rattle.pix_el.proofs.rest.finish_faded.Given as goal

-- the pixels below the index are composited
abbrev pub invariant-loop-i : goal.invariant-loop-i
invariant-loop-i g l =
    let n = g.D.Stored.reads in
    map n l.row ≡ over (matted_composite g.P.Pixel.layout g.O.Blend.op (g.P.Chan.Channel.number l.alpha)) (take l.i (map g.S.Stored.reads l.src)) (map n l.fn.row)
