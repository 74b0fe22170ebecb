-- What holds at each turn of the loop over `k` in `premultiply_blocks`.
use Rattle.std.proofs.Common.{◌≡◌, ◌*◌, take, map}
use Rattle.pix_chan.specs.Runs.{over}
use Rattle.pix_el.specs.Planes.{linear_four, premultiplied_four}
use Rattle.pix_el.proofs.conversion.blocks.premultiply_blocks.Given as goal

-- the pixels of the first k blocks are made
abbrev pub invariant-loop-k : goal.invariant-loop-k
invariant-loop-k g l =
    map g.D.Pixel.numbers l.dst ≡ over (λ p d. premultiplied_four g.D.Chan.Channel.max (linear_four g.P.Chan.Channel.max g.D.Chan.Channel.max g.K.Curve.curve p))
    (take (64 * l.k) (map g.P.Pixel.numbers l.src)) (map g.D.Pixel.numbers l.fn.dst)
