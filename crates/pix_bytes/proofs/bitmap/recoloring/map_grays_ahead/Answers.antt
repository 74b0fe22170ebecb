use Rattle.std.proofs.Common.{◌≡◌, ◌<◌, ℕ, get_or, true, refl, arith}
use Rattle.pix_bytes.specs.Recolored.{gray_recolored}
use Rattle.pix_bytes.proofs.RecoloredRows.{each_of_one}
use Rattle.pix_bytes.proofs.bitmap.recoloring.map_grays_ahead.Goals as goal

pub returns-clause-each : goal.returns-clause-each
returns-clause-each g c = λ f is.
    let t : c.are_plain.result ≡ true = grind (arith, c.if-not-are_plain.false) in
    let plain = c.are_plain.ensures in
    let small : (i : ℕ) → get_or c.args.src.now i 0 < 256 = (λ i. omega (arith, c.type_inv.src i)) in
    let order = c.order.ensures c.in-1-true-Some.field-0-2 c.in-1-true-Some.is-2 in
    let same = is c.in-1-true-Some.field-0-2 (c.in-1-true-Some.ensures refl) order c.in-1-true-Some.is-0 (plain.count t) (plain.straight t) in
    rw (c.in-1-true-Some.is-0, plain.none t, plain.count t, plain.to_none t)
    (each_of_one (gray_recolored g.T.Table.curve) f c.args.src.now c.map_grays.new.dst c.args.count small same c.map_grays.ensures)
