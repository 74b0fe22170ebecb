-- Of `gap`: the squares of the lanes.
use Rattle.pix_table.proofs.lemmas.matching.GapLanes.{gap_at, gap_long}
use Rattle.pix_table.proofs.rgba.near_blocks.gap.Goals as goal

pub returns-clause-long : goal.returns-clause-long
returns-clause-long c = gap_long c.above.result c.above-2.result c.above.ensures.long c.above-2.ensures.long

pub returns-clause-each : goal.returns-clause-each
returns-clause-each c = λ i below.
    gap_at c.args.least c.args.greatest c.above.result c.above-2.result c.args.number i c.above.ensures.long c.above-2.ensures.long below
    (c.above.ensures.each i below) (c.above-2.ensures.each i below)
