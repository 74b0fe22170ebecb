-- What holds at each turn of the loop over `k` in `count_shares`.
use Rattle.std.proofs.Common.{map}
use Rattle.pix_table.specs.SeenPixels.{seen_numbers}
use Rattle.pix_table.specs.quantization.SeenShares.{AreItemSharesOf}
use Rattle.pix_table.proofs.rgba.opaque.count_shares.Given as goal

-- the counts are those of the first k items
abbrev pub invariant-loop-k : goal.invariant-loop-k
invariant-loop-k l = AreItemSharesOf (map seen_numbers l.entries) (map seen_numbers l.colors) l.items.pairs l.k l.shares
