-- What holds at each turn of the loop over `k` in `is_whole`.
use Rattle.std.proofs.Common.{◌*◌}
use borrow.Author.Differences.{up, down}
use Rattle.pix_scale.proofs.WeightedTables.{Added}
use Rattle.pix_scale.proofs.weighted_table.is_whole.Given as goal

-- the weights below k are added up
abbrev pub invariant-loop-k : goal.invariant-loop-k
invariant-loop-k l = Added up l.weights (l.i * l.taps) l.added l.k × Added down l.weights (l.i * l.taps) l.taken l.k
