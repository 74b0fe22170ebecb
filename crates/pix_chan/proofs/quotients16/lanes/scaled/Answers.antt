use Rattle.pix_chan.proofs.LaneQuotients.{scaled_are}
use Rattle.pix_chan.proofs.quotients16.lanes.scaled.Goals as goal

pub returns : goal.returns
returns c = λ ys long fits low middle high.
    rw (c.high_products.ensures, c.high_products-2.ensures, low, middle, high) (scaled_are c.args.x ys c.fits-x.0 long c.fits-x.1 fits)
