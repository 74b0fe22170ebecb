-- What holds at each turn of the loop over `i` in `matted_blocks`.
use Rattle.std.proofs.Common.{◌≡◌, ◌*◌, take, map}
use Rattle.pix_chan.specs.Runs.{over}
use Rattle.pix_el.specs.PixelComposite.{matted_composite}
use Rattle.pix_el.specs.Planes.{coverage_of}
use Rattle.pix_el.proofs.planes.block.matted_blocks.Given as goal

-- the pixels of the blocks below the index are composited
abbrev pub invariant-loop-i : goal.invariant-loop-i
invariant-loop-i g l =
    let v = g.P.Pixel.numbers in
    map g.D.Stored.reads l.dst ≡ over (λ m. matted_composite g.P.Pixel.layout g.O.Blend.op m (v l.color)) (take (l.size * l.i) (map (coverage_of g.P.Chan.Channel.max g.M.Coverage.numbers) l.src)) (map g.D.Stored.reads l.fn.dst)
