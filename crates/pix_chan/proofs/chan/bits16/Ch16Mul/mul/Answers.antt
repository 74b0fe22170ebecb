use Rattle.std.proofs.Common.{rules}
use Rattle.pix_chan.specs.Product.{channel_product}
use Rattle.pix_chan.proofs.chan.bits16.Ch16Mul.mul.Goals as goal

pub returns : goal.returns
unfolding channel_product
returns g c = (_, c.from-rhs.ensures, search rules)
