-- Of `above`: the differences of the lanes.
use Rattle.std.proofs.Common.{arith, sym, ◌∙◌}
use Rattle.pix_table.proofs.lemmas.matching.GapLanes.{above_at, above_long}
use Rattle.pix_table.proofs.rgba.near_blocks.above.Goals as goal

pub returns-clause-long : goal.returns-clause-long
returns-clause-long c = omega (arith, above_long c.args.xs c.args.ys (omega (arith, c.fits-xs.0, c.fits-ys.0)), c.fits-xs.0)

pub returns-clause-each : goal.returns-clause-each
returns-clause-each c = λ i below.
    above_at c.args.xs c.args.ys i (omega (arith, c.fits-xs.0, below)) (omega (arith, c.fits-ys.0, below)) c.fits-xs.1 c.fits-ys.1
