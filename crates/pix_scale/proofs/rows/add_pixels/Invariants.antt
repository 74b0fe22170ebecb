-- What holds at each turn of the loop over `i` in `add_pixels`.
use Rattle.std.proofs.Common.{◌*◌, map}
use Rattle.pix_scale.specs.Table.{flat}
use Rattle.pix_scale.proofs.Terms.{Added}
use Rattle.pix_scale.proofs.rows.add_pixels.Given as goal

-- the sums of the pixels before i have their terms, and the others are as they were
abbrev pub invariant-loop-i : goal.invariant-loop-i
invariant-loop-i g l =
    Added l.initial.sums l.sums (λ x. l.weight * flat g.P.Pixel.layout.count (map g.D.Stored.reads l.row) x) (l.i * l.count)
