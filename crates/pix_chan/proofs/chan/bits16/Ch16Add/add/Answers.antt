use Rattle.std.proofs.Common.{rules}
use Rattle.pix_chan.proofs.chan.bits16.Ch16Add.add.Goals as goal

pub returns : goal.returns
returns g c = (_, c.from-rhs.ensures, search rules)
