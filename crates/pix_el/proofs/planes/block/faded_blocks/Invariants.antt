-- What holds at each turn of the loop over `i` in `faded_blocks`.
use Rattle.std.proofs.Common.{◌≡◌, ◌*◌, take, map}
use Rattle.pix_chan.specs.Runs.{over}
use Rattle.pix_el.specs.PixelComposite.{matted_composite}
use Rattle.pix_el.proofs.planes.block.faded_blocks.Given as goal

-- the pixels of the blocks below the index are composited
abbrev pub invariant-loop-i : goal.invariant-loop-i
invariant-loop-i g l =
    map g.D.Stored.reads l.dst ≡ over (matted_composite g.P.Pixel.layout g.O.Blend.op (g.P.Chan.Channel.number l.alpha)) (take (l.size * l.i) (map g.S.Stored.reads l.src)) (map g.D.Stored.reads l.fn.dst)
