-- Of `tint_top`: the clause `above`.
use Rattle.std.proofs.Common.{arith}
use Rattle.pix_uses.proofs.Reached.{in_rows_above}
use Rattle.pix_uses.proofs.colors.tint_top.Goals as goal

pub returns-clause-above : goal.returns-clause-above
returns-clause-above c = λ x y hx hy above.
    c.tint.ensures.inside x y hx hy
    (in_rows_above c.new.result c.width-width.result c.args.end x y c.new.ensures (omega (arith, c.width-width.ensures.value)) c.width-width.ensures.limited above c.requires)
