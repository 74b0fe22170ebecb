-- What holds at each turn of the loop over `k` in `part_weights`.
use borrow.Author.Differences.{up, down}
use Rattle.pix_scale.proofs.WeightedTables.{Parted}
use Rattle.pix_scale.proofs.weighted_table.part_weights.Given as goal

-- the parts of the weights below k are written
abbrev pub invariant-loop-k : goal.invariant-loop-k
invariant-loop-k l = Parted up l.weights l.plus l.k × Parted down l.weights l.minus l.k
