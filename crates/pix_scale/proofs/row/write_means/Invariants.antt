-- What holds at each turn of the loop over `i` in `write_means`.
use Rattle.std.proofs.Common.{map}
use Rattle.pix_scale.proofs.Terms.{row_at}
use Rattle.pix_scale.proofs.Written.{Written}
use Rattle.pix_scale.proofs.row.write_means.Given as goal

-- the pixels below i are written
abbrev pub invariant-loop-i : goal.invariant-loop-i
invariant-loop-i g l =
    Written (map g.D.Stored.reads l.to) g.P.Pixel.layout.count
    (row_at g.P.Chan.Channel.max l.weights l.taps l.sums g.P.Pixel.layout.count l.firsts l.by.whole) l.i
