use Rattle.std.proofs.Common.{ap, arith}
use Rattle.pix_color.proofs.numbers.middle.Goals as goal

pub returns : goal.returns
returns g c = omega (arith, ap g.C.Channel.number c.MID.ensures, g.met.C.Channel.mid_is_half)
