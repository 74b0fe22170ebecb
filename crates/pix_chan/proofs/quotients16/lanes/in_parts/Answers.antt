use Rattle.std.proofs.Common.{ap}
use lib.Lanes.{digits_l}
use Rattle.pix_chan.proofs.LaneQuotients.{words_again}
use Rattle.pix_chan.proofs.quotients16.lanes.in_parts.Goals as goal

pub returns : goal.returns
returns c = ap (digits_l 65536 16) (words_again c.args.words c.fits-words.0 c.fits-words.1)
