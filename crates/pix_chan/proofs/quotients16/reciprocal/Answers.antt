-- Of `reciprocal`: that it is below 2^41.
use Rattle.pix_chan.proofs.Reciprocals16.{entry_fits}
use Rattle.pix_chan.proofs.quotients16.reciprocal.Goals as goal

pub returns-clause-fits : goal.returns-clause-fits
returns-clause-fits c = entry_fits c.args.b c.requires
