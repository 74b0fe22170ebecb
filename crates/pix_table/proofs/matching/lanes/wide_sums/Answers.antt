-- Of `wide_sums`: the sum of each lane.
use Rattle.std.proofs.Common.{arith}
use Rattle.std.proofs.lemmas.Simd.{Each1-get_or}
use mir.Syntax.{w16}
use mir.Val.{Fits}
use Rattle.pix_table.proofs.lemmas.matching.LaneNumbers.{wide_sum_at, long_wide_sum}
use Rattle.pix_table.proofs.matching.lanes.wide_sums.Goals as goal

pub returns-clause-long : goal.returns-clause-long
returns-clause-long c = long_wide_sum c.args.red c.args.green c.args.blue (omega arith) (omega arith) (omega arith)

pub returns-clause-each : goal.returns-clause-each
returns-clause-each c = λ i below.
    let red = Each1-get_or (Fits w16) c.args.red i 0 (omega arith) c.fits-red.1 in
    let green = Each1-get_or (Fits w16) c.args.green i 0 (omega arith) c.fits-green.1 in
    let blue = Each1-get_or (Fits w16) c.args.blue i 0 (omega arith) c.fits-blue.1 in
    wide_sum_at c.args.red c.args.green c.args.blue (omega arith) (omega arith) (omega arith) i below red.fits green.fits blue.fits

pub returns-clause-few : goal.returns-clause-few
returns-clause-few c = λ i below.
    let red = Each1-get_or (Fits w16) c.args.red i 0 (omega arith) c.fits-red.1 in
    let green = Each1-get_or (Fits w16) c.args.green i 0 (omega arith) c.fits-green.1 in
    let blue = Each1-get_or (Fits w16) c.args.blue i 0 (omega arith) c.fits-blue.1 in
    omega (arith, returns-clause-each c i below, red.fits, green.fits, blue.fits)
