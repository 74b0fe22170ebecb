-- What holds at each turn of the loop over `i` in `write_cut_row`.
use Rattle.std.proofs.Common.{map, get_or}
use Rattle.pix_scale.specs.Signed.{cut_by}
use Rattle.pix_scale.specs.SignedTable.{left_at}
use Rattle.pix_scale.proofs.Written.{Written}
use Rattle.pix_scale.proofs.signed_rows.write_cut_row.Given as goal

-- the pixels below i are written
abbrev pub invariant-loop-i : goal.invariant-loop-i
invariant-loop-i g l =
    Written (map g.D.Stored.reads l.to) g.P.Pixel.layout.count
    (λ i c. cut_by g.P.Pixel.layout (left_at l.plus l.minus l.taps i l.sums g.P.Pixel.layout.count (get_or l.firsts i 0)) c) l.i
