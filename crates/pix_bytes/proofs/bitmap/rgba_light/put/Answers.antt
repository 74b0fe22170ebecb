use Rattle.pix_bytes.proofs.LitFours.{bytes_are}
use Rattle.pix_bytes.proofs.bitmap.rgba_light.put.Goals as goal

pub returns-in-Some : goal.returns-in-Some
returns-in-Some c = bytes_are 16 c.args.lanes c.fits-lanes.0 c.fits-lanes.1
