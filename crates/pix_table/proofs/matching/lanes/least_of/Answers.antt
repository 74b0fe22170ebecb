-- Of `least_of`: that it is the least key.
use Rattle.std.proofs.Common.{arith}
use Rattle.pix_table.proofs.lemmas.matching.LaneSearch.{least_more}
use Rattle.pix_table.proofs.matching.lanes.least_of.Goals as goal

pub loop-i-preserved : goal.loop-i-preserved
loop-i-preserved c = least_more c.args.keys c.loop-i.i c.loop-i.least c.min-least.result c.loop-i.invariant (omega (arith, c.min-least.ensures))
