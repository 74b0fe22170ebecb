-- Of `added`: the sum of each lane.
use Rattle.std.proofs.Common.{arith}
use Rattle.pix_table.proofs.lemmas.matching.LaneNumbers.{add, added_at, long_of}
use Rattle.pix_table.proofs.matching.lanes.added.Goals as goal

pub returns-clause-long : goal.returns-clause-long
returns-clause-long c = long_of (add 4294967296) c.args.xs c.args.ys (omega arith) (omega arith)

pub returns-clause-each : goal.returns-clause-each
returns-clause-each c = λ i below. added_at c.args.xs c.args.ys i (omega arith) (omega arith) below (omega (arith, c.requires.first i below, c.requires.second i below))
