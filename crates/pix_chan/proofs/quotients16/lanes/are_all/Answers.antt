use Rattle.std.proofs.Common.{eqb-true}
use mir.Syntax.{w16}
use Rattle.pix_chan.proofs.LaneTests.{all_are}
use Rattle.pix_chan.proofs.quotients16.lanes.are_all.Goals as goal

pub returns : goal.returns
returns c = λ same. all_are w16 c.args.lanes c.args.value c.fits-lanes.0 (eqb-true _ _ same)
