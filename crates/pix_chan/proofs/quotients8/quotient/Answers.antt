use Rattle.std.proofs.Common.{rules}
use Rattle.pix_chan.proofs.Quotient.{cut_quotient}
use Rattle.pix_chan.proofs.quotients8.quotient.Goals as goal

pub returns : goal.returns
returns c = search (rules, cut_quotient 255 c.args.x c.args.y, c.quotient_by_byte-ratio.ensures)
