use Rattle.std.proofs.Common.{rules}
use Rattle.pix_chan.proofs.chan.bits8.Ch8Div.div.Goals as goal

pub returns : goal.returns
returns g c = (_, c.from-rhs.ensures, search (rules, c.quotient.ensures))
