-- What holds at each turn of the loop over `i` in `least_of`.
use Rattle.pix_table.specs.matching.Lanes.{IsLeastOf}
use Rattle.pix_table.proofs.matching.lanes.least_of.Given as goal

-- it is the least of the keys below the index
abbrev pub invariant-loop-i : goal.invariant-loop-i
invariant-loop-i l = IsLeastOf l.keys l.i l.least
