-- What holds at each turn of the loop over `k` in `sum_both`.
use Rattle.std.proofs.Common.{◌≡◌, length, slice_index}
use Rattle.pix_scale.proofs.Sums.{Summed}
use Rattle.pix_scale.proofs.lanes.sum_both.Given as goal

-- each lane has the terms of the pixels before k
abbrev pub invariant-loop-k : goal.invariant-loop-k
invariant-loop-k l = record {
  lanes : length l.added ≡ 4;
  summed : Summed l.added l.plus (slice_index l.sums) 4 l.k;
  taken_lanes : length l.taken ≡ 4;
  taken_summed : Summed l.taken l.minus (slice_index l.sums) 4 l.k;
}
