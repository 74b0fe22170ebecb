-- Of `nearest`: the clause `value`.
use Rattle.std.specs.Prelude.{pos}
use Rattle.std.proofs.Common.{◌≡◌, arith}
use Rattle.std.proofs.lemmas.Int.{ints}
use Rattle.pix_chan.proofs.Whole.{nearest_of_negative, nearest_of_natural}
use Rattle.pix_chan.proofs.chan.whole.nearest.Goals as goal

pub returns-then-n-lt0-clause-value : goal.returns-then-n-lt0-clause-value
returns-then-n-lt0-clause-value c = nearest_of_negative _ _ _ (omega (arith, ints)) c.requires.positive

pub returns-clause-value : goal.returns-clause-value
returns-clause-value c =
    let n : c.args.n ≡ pos c.unsigned_abs-n.result = omega (arith, ints) in
    let d : c.args.d ≡ pos c.unsigned_abs-d.result = omega (arith, ints) in
    rw (n, d) (nearest_of_natural c.args.max c.unsigned_abs-n.result c.unsigned_abs-d.result c.min.result c.min.ensures)
