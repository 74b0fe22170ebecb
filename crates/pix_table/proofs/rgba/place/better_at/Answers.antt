-- Of `better_at`: its clause at each return.
use Rattle.std.proofs.Common.{arith, subst}
use Rattle.pix_table.specs.quantization.BestPlaces.{IsBestBeforeBy, IsBestUpToBy}
use Rattle.pix_table.specs.quantization.SeenSums.{seen_gain_at}
use Rattle.pix_table.proofs.lemmas.quantization.PlacesBy.{kept_by}
use Rattle.pix_table.proofs.lemmas.quantization.SeenWeights.{same_sums}
use Rattle.pix_table.proofs.rgba.place.better_at.Goals.{in-Some+else-both_weigh_at_most, in_default}
use Rattle.pix_table.proofs.rgba.place.better_at.Goals as goal

pub returns-then-both_weigh_at_most : goal.returns-then-both_weigh_at_most
returns-then-both_weigh_at_most c = λ box h can gains.
    let before : IsBestBeforeBy 4 seen_gain_at box c.args.k c.args.value c.in-Some.old =
    subst (λ b. IsBestUpToBy 4 seen_gain_at box c.args.k c.args.value b) c.in-Some.is h in
    let e = c.without-high.ensures in
    let high = same_sums _ _ _ _ _ _ _ _ _ _ e.count e.red e.green e.blue e.alpha in
    kept_by 4 seen_gain_at box c.args.k c.args.value c.in-Some.old before
    (λ again. omega (arith, gains, high, c.saturating_add.ensures, c.both_weigh_at_most.ensures c.if-both_weigh_at_most.true))

pub returns : goal.returns
returns c = λ box h can gains.
    let e = c.without-high.ensures in
    let high = same_sums _ _ _ _ _ _ _ _ _ _ e.count e.red e.green e.blue e.alpha in
    c.better.ensures 4 seen_gain_at box (elim c.match-best.branch [
      | in-Some+else-both_weigh_at_most w ↦ rw w.best-is (subst (λ b. IsBestUpToBy 4 seen_gain_at box c.args.k c.args.value b) w.in-Some.is h)
      | in_default w ↦ rw w.best-is h
    ]) can (omega (arith, gains, high, c.weight.ensures.weight, c.weight-2.ensures.weight, c.saturating_sub-gain.ensures))
