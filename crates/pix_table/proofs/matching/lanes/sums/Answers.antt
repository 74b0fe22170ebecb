use Rattle.std.proofs.Common.{arith}
use Rattle.pix_chan.proofs.Lanes16.{sums_of_words}
use Rattle.pix_table.proofs.matching.lanes.sums.Goals as goal

pub returns : goal.returns
returns c = sums_of_words c.args.xs c.args.ys (omega (arith, c.fits-xs.0)) (omega (arith, c.fits-ys.0)) c.fits-xs.1 c.fits-ys.1
