use Rattle.pix_chan.proofs.LaneQuotients.{alphas_put}
use Rattle.pix_chan.proofs.quotients16.lanes.with_alphas_of.Goals as goal

pub returns : goal.returns
returns c = alphas_put c.args.colors c.args.x c.fits-colors.0 c.fits-x.0
