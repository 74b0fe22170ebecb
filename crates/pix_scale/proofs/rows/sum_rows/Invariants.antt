-- What holds at each turn of the loop over `k` in `sum_rows`.
use Rattle.std.proofs.Common.{◌*◌, map}
use Rattle.pix_scale.specs.Table.{flat}
use Rattle.pix_scale.proofs.Sums.{Summed}
use Rattle.pix_scale.proofs.rows.sum_rows.Given as goal

-- each sum has the terms of the rows before k
abbrev pub invariant-loop-k : goal.invariant-loop-k
invariant-loop-k g l =
    Summed l.sums l.weights (flat g.P.Pixel.layout.count (map g.D.Stored.reads l.rows)) (l.stride * g.P.Pixel.layout.count) l.k
