use Rattle.pix_chan.specs.LaneQuotients.{alphas_in, whole_reciprocal_of}
use Rattle.pix_chan.proofs.LaneQuotients.{alphas_fit, wholes_divide}
use Rattle.pix_chan.proofs.quotients16.lanes.divided_by_any.Goals as goal

pub returns : goal.returns
returns c =
    let x = c.args.x in
    c.divided_by.ensures whole_reciprocal_of (wholes_divide (alphas_in x) (alphas_fit x c.fits-x.1)) c.whole_reciprocals.ensures
