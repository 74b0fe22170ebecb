-- Of `wide_keys`: the key of each lane.
use Rattle.std.proofs.Common.{arith}
use Rattle.pix_table.proofs.lemmas.matching.LaneNumbers.{wide_key_at, long_wide_key}
use Rattle.pix_table.proofs.matching.lanes.wide_keys.Goals as goal

pub returns-clause-long : goal.returns-clause-long
returns-clause-long c = long_wide_key c.args.far _ (omega arith)

pub returns-clause-each : goal.returns-clause-each
returns-clause-each c = λ i below. wide_key_at c.args.far _ (omega arith) i c.args.j below c.requires.block (omega arith) (c.requires.few i below)
