-- What holds at each turn of the loop over `k` in `premultiply_block`.
use Rattle.std.proofs.Common.{◌≡◌, ◌*◌, take, map}
use Rattle.pix_chan.specs.Runs.{over}
use Rattle.pix_el.specs.Planes.{premultiplied_four}
use Rattle.pix_el.proofs.conversion.blocks.premultiply_block.Given as goal

-- the pixels below 4 k are premultiplied
abbrev pub invariant-loop-k : goal.invariant-loop-k
invariant-loop-k g l =
    let n = g.P.Pixel.numbers in
    map n l.p ≡ over (λ s d. premultiplied_four g.P.Chan.Channel.max d) (take (4 * l.k) (map n l.fn.p)) (map n l.fn.p)
