use Rattle.std.proofs.Common.{eqb-true}
use mir.Syntax.{w8}
use Rattle.pix_chan.proofs.LaneTests.{all_are}
use Rattle.pix_bytes.proofs.bitmap.rgba_light.are_full.Goals as goal

pub returns : goal.returns
returns c = λ same. all_are w8 c.args.bytes 255 c.fits-bytes.0 (eqb-true _ _ same)
