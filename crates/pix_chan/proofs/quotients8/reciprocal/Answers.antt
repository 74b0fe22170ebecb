use Rattle.pix_chan.proofs.ByTable.{entry}
use Rattle.pix_chan.proofs.quotients8.reciprocal.Goals as goal

pub returns : goal.returns
returns c = search (entry, c.from.ensures, c.requires)
