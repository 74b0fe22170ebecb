-- Of `units`: the clause `small`.
use Rattle.std.proofs.Common.{arith}
use Rattle.pix_color.proofs.Narrow.{narrow}
use Rattle.pix_color.proofs.numbers.units.Goals as goal

pub returns-clause-small : goal.returns-clause-small
returns-clause-small g c = omega (arith, c.to_u32.ensures, g.met.C.Channel.numbered.fits c.args.c, narrow g.C.Channel.max g.met.C.Channel.laws)
