-- What holds at each turn of the loop over `c` in `write_four`.
use Rattle.std.proofs.Common.{map}
use Rattle.pix_scale.proofs.Terms.{Made, mean_at}
use Rattle.pix_scale.proofs.pixels.write_four.Given as goal

-- the channels below c are written
abbrev pub invariant-loop-c : goal.invariant-loop-c
invariant-loop-c g l = Made (map g.C.Channel.number l.to) (mean_at g.C.Channel.max l.sums_of l.by.whole) l.c
