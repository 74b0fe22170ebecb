-- What holds at each turn of the loop over `i` in `write_channels`.
use Rattle.pix_raster.proofs.Samples.{SameBelow}
use Rattle.pix_raster.proofs.raster.samples.write_channels.Given as goal

-- the channels below i have the numbers of the samples at their places
abbrev pub invariant-loop-i : goal.invariant-loop-i
invariant-loop-i g l = SameBelow g.C.Channel.number g.S.Sample.number l.channels l.samples l.i
