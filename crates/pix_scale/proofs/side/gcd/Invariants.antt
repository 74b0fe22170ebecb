-- What holds at each turn of the loop `steps` in `gcd`.
use Rattle.std.proofs.Common.{ℕ, ◌<◌}
use Rattle.std.specs.Int.{IsGcd}
use Rattle.pix_scale.proofs.side.gcd.Given as goal

-- the numbers have the same common divisors
abbrev pub invariant-steps : goal.invariant-steps
invariant-steps l = record {
  some : 0 < l.x;
  same : (g : ℕ) → IsGcd l.x l.y g → IsGcd l.a l.b g;
}

abbrev pub decreases-steps : goal.decreases-steps
decreases-steps l = l.y
