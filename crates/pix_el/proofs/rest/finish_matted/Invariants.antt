-- What holds at each turn of the loop over `i` in `finish_matted`.
use Rattle.std.proofs.Common.{◌≡◌, take, map}
use Rattle.pix_chan.specs.Runs.{over}
use Rattle.pix_el.specs.PixelComposite.{matted_composite, matte_value}
use Rattle.pix_el.proofs.rest.finish_matted.Given as goal

-- the pixels below the index are composited
abbrev pub invariant-loop-i : goal.invariant-loop-i
invariant-loop-i g l =
    let n = g.D.Stored.reads in
    let layout = g.P.Pixel.layout in
    map n l.row ≡ over (λ matte. matted_composite layout g.O.Blend.op (matte_value layout matte) (g.P.Pixel.numbers l.clr))
    (take l.i (map g.M.Coverage.numbers l.src)) (map n l.fn.row)
