-- What holds at each turn of the loop over `k` in `sum_lanes`.
use Rattle.std.proofs.Common.{◌≡◌, length, slice_index}
use Rattle.pix_scale.proofs.Sums.{Summed}
use Rattle.pix_scale.proofs.lanes.sum_lanes.Given as goal

-- each lane has the terms of the pixels before k
abbrev pub invariant-loop-k : goal.invariant-loop-k
invariant-loop-k l = record {
  lanes : length l.acc ≡ 4;
  summed : Summed l.acc l.weights (slice_index l.sums) 4 l.k;
}
