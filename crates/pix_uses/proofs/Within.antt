-- how far a run is from the exact one
use Rattle.std.proofs.Common.{ℕ, ◌≤◌, ◌*◌, arith}
use Rattle.std.proofs.Math.Nat.{mul-le-mul_right}
use Rattle.pix_ops.specs.ExactComposite.{Within}
use Rattle.pix_ops.specs.ExactRun.{Rounded, Exact, Budget, AreWithin, AreAtMost}

-- within a small budget is within a greater one
within_more : (b n w u v : ℕ) → b ≤ n → Within (b * w) u v → Within (n * w) u v
within_more b n w u v h r =
    let k : b * w ≤ n * w = mul-le-mul_right w h in
    record { above = omega (arith, r.above); below = omega (arith, r.below) }

pub are_within_more : (n : ℕ) (budget : Budget) (made : Rounded) (exact : Exact) → AreAtMost n budget
    → AreWithin budget.channel budget.alpha made exact → AreWithin n n made exact
are_within_more n budget made exact few r = record {
  whole = r.whole;
  channel = within_more budget.channel n exact.whole _ _ few.channel r.channel;
  alpha = within_more budget.alpha n exact.whole _ _ few.alpha r.alpha;
}
