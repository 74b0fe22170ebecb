use Rattle.std.proofs.Common.{subst, sym, Fits}
use mir.Syntax.{w16}
use lib.Lanes.{Each1}
use Rattle.pix_chan.proofs.Lanes.{pairs}
use Rattle.pix_chan.proofs.LaneProducts.{high_halves_are, Each1-halves, highs_are}
use Rattle.pix_chan.proofs.quotients16.lanes.high_products.Goals as goal

pub overflow_cast-result : goal.overflow_cast-result
overflow_cast-result c =
    subst (Each1 (Fits w16)) (sym (high_halves_are c.args.x c.args.y c.fits-x.0 c.fits-y.0)) (Each1-halves (pairs c.args.x c.args.y))

pub returns : goal.returns
returns c = highs_are c.args.x c.args.y c.fits-x.0 c.fits-y.0 c.fits-x.1 c.fits-y.1
