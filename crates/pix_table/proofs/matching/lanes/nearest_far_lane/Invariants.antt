-- What holds at each turn of the loop over `j` in `nearest_far_lane`.
use Rattle.pix_table.proofs.lemmas.matching.LaneSearch.{AreLeastKeysIn}
use Rattle.pix_table.proofs.matching.lanes.nearest_far_lane.Given as goal

-- each lane has the least of its keys in the blocks below the index
abbrev pub invariant-loop-j : goal.invariant-loop-j
invariant-loop-j g l = AreLeastKeysIn (λ block. g.B.LaneBlock.apart block l.sought) l.blocks l.j l.least
