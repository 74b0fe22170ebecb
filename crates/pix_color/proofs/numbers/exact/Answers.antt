use Rattle.std.specs.Prelude.{pos}
use Rattle.std.proofs.Common.{◌<◌, arith, rules, ◌∙◌}
use Rattle.std.proofs.lemmas.Int.{ints}
use Rattle.pix_color.proofs.Narrow.{narrow}
use Rattle.pix_color.proofs.Nearest.{nearest-same, nearest-exact}
use Rattle.pix_color.proofs.numbers.exact.Goals as goal

pub returns : goal.returns
returns g c = c.from_ratio.ensures.value ∙ nearest-same _ _ (pos c.args.n) _ (pos 1) (omega (arith, ints, narrow g.C.Channel.max g.met.C.Channel.laws)) (omega (arith, ints)) ∙ nearest-exact _ c.args.n c.requires

pub overflow_cast-n : goal.overflow_cast-n
overflow_cast-n g c =
    let h = narrow g.C.Channel.max g.met.C.Channel.laws in
    let k : c.args.n < 65536 = omega (arith, h, c.requires) in search (rules, k)

pub from_ratio-requires-clause-sum_fits : goal.from_ratio-requires-clause-sum_fits
from_ratio-requires-clause-sum_fits g c =
    let h = narrow g.C.Channel.max g.met.C.Channel.laws in
    let k : c.args.n < 65536 = omega (arith, h, c.requires) in grind (arith, ints, k)
