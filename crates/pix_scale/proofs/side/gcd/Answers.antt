use Rattle.std.proofs.Common.{arith}
use Rattle.std.proofs.Math.Nat.{mod-lt}
use Rattle.std.proofs.lemmas.Nat.Gcd.{IsGcd-from_mod, IsGcd-from_zero}
use Rattle.pix_scale.proofs.Ratios.{gcd_is}
use Rattle.pix_scale.proofs.side.gcd.Goals as goal

pub steps-init : goal.steps-init
steps-init c = record { some = c.requires.a; same = λ g h. h }

pub steps-preserved : goal.steps-preserved
steps-preserved c = record { some = c.steps-test.true; same = λ g h. c.steps.invariant.same g (IsGcd-from_mod c.steps.x c.steps.y g h) }

pub steps-smaller : goal.steps-smaller
steps-smaller c = mod-lt c.steps.x c.steps-test.true

pub returns : goal.returns
returns c =
    let is = c.steps.invariant.same c.steps.x (IsGcd-from_zero c.steps.x c.steps.y (omega arith)) in
    record {
      some = c.steps.invariant.some;
      divides = is;
      value = gcd_is c.args.a c.args.b c.steps.x c.requires.a c.requires.b c.steps.invariant.some is;
    }
