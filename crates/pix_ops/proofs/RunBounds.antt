-- How near a rounded run is to the exact run.
use Rattle.std.specs.Prelude.{All}
use Rattle.std.proofs.Common.{ℕ, ◌≤◌, List, arith}
use Rattle.pix_chan.specs.Product.{channel_product, fineness, IsProduct}
use Rattle.pix_ops.specs.ExactRun.{ChannelEffect, InRange, Rounded, rounded_run, Exact, both, IsWithinBudget, IsWithinPremultipliedBound}
use Rattle.pix_ops.proofs.RunSteps.{Holds, run_holds}
use Rattle.pix_ops.proofs.Balance.{Balanced, run_balanced}
pub use Rattle.pix_ops.proofs.Budgets.{budget_small}

-- a channel and its alpha lie within their rounding budgets of the exact run, whatever the effects
pub run_within_budget : (max : ℕ) (start : Rounded) (effects : List ChannelEffect) → IsProduct fineness max (channel_product max)
    → start.channel ≤ max → start.alpha ≤ max → All (InRange max) effects → IsWithinBudget max start effects (rounded_run max start effects)
run_within_budget max start effects laws channel_small alpha_small fit =
    let first : Exact = record { value = start.channel; alpha = start.alpha; whole = 1 } in
    let begin : Holds fineness max (both 0) start first = record {
      whole = omega arith;
      channel = record { small = channel_small; proper = omega arith; close = omega arith };
      alpha = record { small = alpha_small; proper = omega arith; close = omega arith };
    } in
    let end = run_holds effects fineness max (both 0) start first laws fit begin in
    record { whole = end.whole; channel = end.channel.close; alpha = end.alpha.close }

-- with premultiplied sources they lie within twice the counts
pub premultiplied_run_near : (max : ℕ) (start : Rounded) (effects : List ChannelEffect) → IsProduct fineness max (channel_product max)
    → start.channel ≤ max → start.alpha ≤ max → All (InRange max) effects → IsWithinPremultipliedBound max start effects (rounded_run max start effects)
premultiplied_run_near max start effects laws channel_small alpha_small fit premultiplied =
    let first : Exact = record { value = start.channel; alpha = start.alpha; whole = 1 } in
    let begin : Balanced fineness max 0 start first = record {
      whole = omega arith;
      channel_small = channel_small;
      alpha_small = alpha_small;
      value_proper = omega arith;
      alpha_proper = omega arith;
      off = 0;
      alpha_off = 0;
      channel = omega arith;
      alpha = omega arith;
      together = omega arith;
      twice = omega arith;
    } in
    let end = run_balanced effects fineness max 0 start first laws fit premultiplied begin in
    record { whole = end.whole; channel = omega (arith, end.channel, end.together); alpha = omega (arith, end.alpha, end.twice) }
