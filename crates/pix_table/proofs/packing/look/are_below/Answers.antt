-- Of `are_below`: what it answers, and that the invariant of its loop over `i` holds after each
-- turn.
use Rattle.std.proofs.Common.{arith}
use Rattle.pix_table.proofs.Below.{below_more}
use Rattle.pix_table.proofs.packing.look.are_below.Goals as goal

pub loop-i-preserved : goal.loop-i-preserved
loop-i-preserved c = below_more c.args.count c.args.indices.now c.loop-i.i (omega arith) (omega arith) c.loop-i.invariant
