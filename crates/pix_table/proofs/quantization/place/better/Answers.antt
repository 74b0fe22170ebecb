-- Of `better`: its clause at each return.
use Rattle.std.proofs.Common.{None, arith, subst}
use Rattle.pix_table.specs.quantization.BestPlaces.{IsBestBeforeBy, IsBestUpToBy}
use Rattle.pix_table.proofs.lemmas.quantization.PlacesBy.{kept_by, taken_by}
use Rattle.pix_table.proofs.quantization.place.better.Goals as goal

pub returns-then-place-old : goal.returns-then-place-old
returns-then-place-old c = λ n gains_at box h can gains.
    let p = c.args.place in
    let before : IsBestBeforeBy n gains_at box c.args.place.channel c.args.place.value c.in-Some.old =
    subst (λ b. IsBestUpToBy n gains_at box p.channel p.value b) c.in-Some.is h in
    taken_by n gains_at box p can gains (λ i w earlier also. omega (arith, before.best i w earlier also, c.if-place-old.true))

pub returns-else-place-old : goal.returns-else-place-old
returns-else-place-old c = λ n gains_at box h can gains.
    let p = c.args.place in
    let before : IsBestBeforeBy n gains_at box c.args.place.channel c.args.place.value c.in-Some.old =
    subst (λ b. IsBestUpToBy n gains_at box p.channel p.value b) c.in-Some.is h in
    kept_by n gains_at box p.channel p.value c.in-Some.old before (λ again. omega (arith, gains, c.if-place-old.false))

pub returns-in-None : goal.returns-in-None
returns-in-None c = λ n gains_at box h can gains.
    let p = c.args.place in
    let none : IsBestUpToBy n gains_at box c.args.place.channel c.args.place.value None =
    subst (λ b. IsBestUpToBy n gains_at box p.channel p.value b) c.in-None.is h in
    taken_by n gains_at box p can gains (λ i w earlier also. absurd (none i w earlier also))
