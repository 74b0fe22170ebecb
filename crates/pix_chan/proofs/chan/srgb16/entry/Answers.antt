-- Of `entry`: that it is at most 4080.
use Rattle.std.proofs.Common.{refl}
use Rattle.pix_chan.proofs.Srgb16.{entry_fits}
use Rattle.pix_chan.proofs.chan.srgb16.entry.Goals as goal

pub returns-clause-fits : goal.returns-clause-fits
returns-clause-fits c = rw c.from.ensures (entry_fits c.args.sixteen c.args.sixteen refl c.requires)
