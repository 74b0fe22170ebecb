use Rattle.pix_chan.proofs.LaneQuotients.{alphas_picked}
use Rattle.pix_chan.proofs.quotients16.lanes.alphas.Goals as goal

pub returns : goal.returns
returns c = alphas_picked c.args.x c.fits-x.0
