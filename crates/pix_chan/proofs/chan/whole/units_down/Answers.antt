-- Of `units_down`: the clause `value`.
use Rattle.std.proofs.Common.{arith, ◌%◌}
use Rattle.std.proofs.Math.Nat.{div-add-mod'}
use Rattle.pix_chan.proofs.Whole.{dropped_rest, counted_rest}
use Rattle.pix_chan.proofs.chan.whole.units_down.Goals as goal

pub returns-then-fall-max-clause-value : goal.returns-then-fall-max-clause-value
returns-then-fall-max-clause-value c =
    dropped_rest _ _ (c.args.fall % c.args.max) _ c.requires (omega arith) (omega (arith, div-add-mod' c.args.fall c.args.max))

pub returns-else-fall-max-clause-value : goal.returns-else-fall-max-clause-value
returns-else-fall-max-clause-value c =
    counted_rest _ _ (c.args.fall % c.args.max) _ c.requires (omega arith) (omega arith) (omega (arith, div-add-mod' c.args.fall c.args.max))
