-- What holds at each turn of the loop over `x` in `add_channels`.
use Rattle.std.proofs.Common.{◌*◌, map, get_or}
use Rattle.pix_scale.proofs.Terms.{Added}
use Rattle.pix_scale.proofs.rows.add_channels.Given as goal

-- the sums below x have their terms, and the others are as they were
abbrev pub invariant-loop-x : goal.invariant-loop-x
invariant-loop-x g l =
    Added l.initial.sums l.sums (λ k. l.weight * get_or (map g.C.Channel.number l.row) k 0) l.x
