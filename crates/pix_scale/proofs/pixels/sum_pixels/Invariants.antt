-- What holds at each turn of the loop over `k` in `sum_pixels`.
use Rattle.pix_scale.proofs.Sums.{Summed}
use Rattle.std.proofs.Common.{length, slice_index}
use Rattle.pix_scale.proofs.pixels.sum_pixels.Given as goal

-- each sum has the terms of the pixels before k
abbrev pub invariant-loop-k : goal.invariant-loop-k
invariant-loop-k l = Summed l.to l.weights (slice_index l.sums) (length l.initial.to) l.k
