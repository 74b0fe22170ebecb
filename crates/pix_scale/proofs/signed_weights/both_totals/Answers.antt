use Rattle.std.proofs.Common.{arith, refl, ap, ◌∙◌}
use Rattle.pix_scale.specs.Signed.{raised, adds, takes}
use Rattle.pix_scale.proofs.Sums.{total_next}
use Rattle.pix_scale.proofs.signed_weights.both_totals.Goals as goal

pub loop-k-init : goal.loop-k-init
loop-k-init c = record { added = refl; taken = refl; added_small = omega arith; taken_small = omega arith }

pub loop-k-preserved : goal.loop-k-preserved
loop-k-preserved c =
    let value = c.raised-value.ensures.value ∙ ap (raised c.args.filter) c.apart.ensures.value in
    record {
      added = omega (arith, c.loop-k.invariant.added, value, c.saturating_sub-added.ensures, total_next c.loop-k.k (adds c.args.filter c.args.n c.args.m c.args.i c.args.first));
      taken = omega (arith, c.loop-k.invariant.taken, value, c.saturating_sub-taken.ensures, total_next c.loop-k.k (takes c.args.filter c.args.n c.args.m c.args.i c.args.first));
      added_small = omega (arith, c.loop-k.invariant.added_small, c.raised-value.ensures.small, c.saturating_sub-added.ensures);
      taken_small = omega (arith, c.loop-k.invariant.taken_small, c.raised-value.ensures.small, c.saturating_sub-taken.ensures);
    }
