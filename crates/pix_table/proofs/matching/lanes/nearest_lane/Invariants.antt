-- What holds at each turn of the loop over `j` in `nearest_lane`.
use Rattle.pix_table.proofs.lemmas.matching.LaneSearch.{AreLeastIn}
use Rattle.pix_table.proofs.matching.lanes.nearest_lane.Given as goal

-- each lane has the least of its distances in the blocks below the index
abbrev pub invariant-loop-j : goal.invariant-loop-j
invariant-loop-j g l = AreLeastIn (λ block. g.B.LaneBlock.apart block l.sought) l.blocks l.j l.least l.at
