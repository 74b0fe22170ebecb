-- What holds at each turn of the loop over `k` in `sum_groups`.
use Rattle.std.proofs.Common.{map}
use Rattle.pix_table.specs.SeenPixels.{seen_numbers}
use Rattle.pix_table.specs.quantization.SeenGroups.{AreSeenItemGroups}
use Rattle.pix_table.proofs.rgba.refine.sum_groups.Given as goal

-- the sums are those of the first k items
abbrev pub invariant-loop-k : goal.invariant-loop-k
invariant-loop-k l = AreSeenItemGroups (map seen_numbers l.entries) (map seen_numbers l.colors) l.items.pairs l.k l.sums
