-- What holds at each turn of the loop over `c` in `cut_pixel`.
use Rattle.std.proofs.Common.{map}
use Rattle.pix_scale.specs.Signed.{cut_by}
use Rattle.pix_scale.specs.SignedTable.{left}
use Rattle.pix_scale.proofs.Terms.{Made}
use Rattle.pix_scale.proofs.signed_pixels.cut_pixel.Given as goal

-- the channels below c are written
abbrev pub invariant-loop-c : goal.invariant-loop-c
invariant-loop-c g l = Made (map g.P.Chan.Channel.number l.own) (cut_by g.P.Pixel.layout (left l.plus l.minus l.sums g.P.Pixel.layout.count)) l.c
