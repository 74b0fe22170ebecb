-- What holds at each turn of the loop over `i` in `linear_pixels`.
use Rattle.std.proofs.Common.{◌≡◌, take, map}
use Rattle.pix_chan.specs.Runs.{over}
use Rattle.pix_el.specs.Planes.{linear_four}
use Rattle.pix_el.proofs.conversion.blocks.linear_pixels.Given as goal

-- the pixels below the index are written
abbrev pub invariant-loop-i : goal.invariant-loop-i
invariant-loop-i g l =
    map g.D.Pixel.numbers l.dst ≡ over (λ p _. linear_four g.P.Chan.Channel.max g.D.Chan.Channel.max g.K.Curve.curve p)
    (take l.i (map g.P.Pixel.numbers l.src)) (map g.D.Pixel.numbers l.initial.dst)
