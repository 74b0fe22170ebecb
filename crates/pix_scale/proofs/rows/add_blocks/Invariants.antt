-- What holds at each turn of the loop over `b` in `add_blocks`.
use Rattle.std.proofs.Common.{◌*◌, map}
use Rattle.pix_scale.specs.Table.{flat}
use Rattle.pix_scale.proofs.Terms.{Added}
use Rattle.pix_scale.proofs.rows.add_blocks.Given as goal

-- the sums of the blocks before b have their terms, and the others are as they were
abbrev pub invariant-loop-b : goal.invariant-loop-b
invariant-loop-b g l =
    Added l.initial.sums l.sums (λ x. l.weight * flat g.P.Pixel.layout.count (map g.D.Stored.reads l.row) x) (l.b * 8 * l.count)
