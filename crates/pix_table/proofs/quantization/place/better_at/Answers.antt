-- Of `better_at`: its clause at each return.
use Rattle.std.proofs.Common.{◌∙◌, arith, subst, sym}
use Rattle.pix_table.specs.quantization.BestPlaces.{IsBestBefore, IsBestUpTo, gain_at}
use Rattle.pix_table.proofs.lemmas.quantization.PlaceLemmas.{kept}
use Rattle.pix_table.proofs.quantization.place.better_at.Goals.{in-Some+else-gains_little, in_default}
use Rattle.pix_table.proofs.quantization.place.better_at.Goals as goal

pub returns-then-gains_little : goal.returns-then-gains_little
returns-then-gains_little g c = λ box h can gains.
    let before : IsBestBefore box c.args.k c.args.value c.in-Some.old =
    subst (λ b. IsBestUpTo box c.args.k c.args.value b) c.in-Some.is h in
    kept box c.args.k c.args.value c.in-Some.old before (λ again. omega (arith, gains, c.gains_little.ensures c.if-gains_little.true))

pub returns : goal.returns
returns g c = λ box h can gains.
    c.better.ensures 3 gain_at box (elim c.match-best.branch [
      | in-Some+else-gains_little w ↦ rw w.best-is (subst (λ b. IsBestUpTo box c.args.k c.args.value b) w.in-Some.is h)
      | in_default w ↦ rw w.best-is h
    ]) can (gains ∙ sym c.gain-gain.ensures)
