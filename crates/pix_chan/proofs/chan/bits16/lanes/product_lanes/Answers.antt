use Rattle.std.proofs.Common.{◌∙◌, ◌^◌, ap}
use lib.Lanes.{zip2}
use Rattle.pix_chan.specs.Lanes.{carried}
use Rattle.pix_chan.proofs.Lanes.{mul}
use Rattle.pix_chan.proofs.Lanes16.{products_are}
use Rattle.pix_chan.proofs.chan.bits16.lanes.product_lanes.Goals as goal

pub returns : goal.returns
returns c =
    c.raise.ensures
    ∙ ap (zip2 carried (zip2 (mul (2 ^ 16)) c.args.a c.args.b)) c.high.ensures
    ∙ products_are c.args.a c.args.b c.fits-a.1 c.fits-b.1
