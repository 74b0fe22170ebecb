use Rattle.pix_chan.proofs.LaneProducts.{products_are}
use Rattle.pix_bytes.proofs.bitmap.rgba_light.products.Goals as goal

pub returns : goal.returns
returns c = rw c.high_products.ensures (products_are c.args.x c.args.y c.fits-x.0 c.fits-y.0 c.fits-x.1 c.fits-y.1)
