-- What holds at each turn of the loop over `i` in `masked_blocks`.
use Rattle.std.proofs.Common.{◌≡◌, ◌*◌, take, map}
use Rattle.std.specs.List.{zip}
use Rattle.pix_chan.specs.Runs.{over}
use Rattle.pix_el.specs.PixelComposite.{matted_composite}
use Rattle.pix_el.specs.Planes.{coverage_of}
use Rattle.pix_el.proofs.planes.block.masked_blocks.Given as goal

-- the pixels of the blocks below the index are composited
abbrev pub invariant-loop-i : goal.invariant-loop-i
invariant-loop-i g l =
    map g.D.Stored.reads l.dst ≡ over (λ t. matted_composite g.P.Pixel.layout g.O.Blend.op t.0 t.1) (take (l.size * l.i) (zip (map (coverage_of g.P.Chan.Channel.max g.M.Coverage.numbers) l.mattes) (map g.S.Stored.reads l.src))) (map g.D.Stored.reads l.fn.dst)
