-- What holds at each turn of the loop in `pixels_made`, and why it ends.
use Rattle.std.proofs.Common.{◌≡◌, ◌+◌, ◌++◌, length, map}
use Rattle.std.specs.Prelude.{vec_len}
use Rattle.pix_raster.proofs.raster.making.pixels_made.Given as goal

-- with what is made of the pixels that are left, the whole is there
abbrev pub invariant-loop-left : goal.invariant-loop-left
invariant-loop-left g l =
    (map g.P.Pixel.numbers l.pixels.items ++ map g.M.Making.made (map g.S.Pixel.numbers l.left) ≡ map g.M.Making.made (map g.S.Pixel.numbers l.fn.src))
    × (vec_len l.pixels + length l.left ≡ length l.fn.src)

abbrev pub decreases-loop-left : goal.decreases-loop-left
decreases-loop-left g l = length l.left
