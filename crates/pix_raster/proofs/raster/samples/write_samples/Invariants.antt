-- What holds at each turn of the loop over `i` in `write_samples`.
use Rattle.pix_raster.proofs.Samples.{SameBelow}
use Rattle.pix_raster.proofs.raster.samples.write_samples.Given as goal

-- the samples below i have the numbers of the channels at their places
abbrev pub invariant-loop-i : goal.invariant-loop-i
invariant-loop-i g l = SameBelow g.S.Sample.number g.C.Channel.number l.samples l.channels l.i
