use Rattle.std.proofs.Common.{arith}
use Rattle.std.proofs.lemmas.Bool.Decides.{nat_tests}
use Rattle.pix_uses.proofs.lists.glaze_twice.Goals as goal

pub returns : goal.returns
returns c = λ x y ch hx hy few reached.
    rw reached at (c.run.ensures.within_budget x y ch hx hy (record { within = few; no_hue = grind (arith, nat_tests) }))
