use Rattle.std.proofs.Common.{◌≡◌, ◌<◌, ℕ, get_or, true, arith}
use Rattle.pix_bytes.specs.Recolored.{recolored}
use Rattle.pix_bytes.proofs.RecoloredRows.{each_of_four, each_of_three}
use Rattle.pix_bytes.proofs.bitmap.recoloring.map_ahead.Goals as goal

pub returns-in-4-clause-each : goal.returns-in-4-clause-each
returns-in-4-clause-each g c = λ f is.
    let t : c.are_plain.result ≡ true = grind (arith, c.if-not-are_plain.false) in
    let plain = c.are_plain.ensures in
    let small : (i : ℕ) → get_or c.args.src.now i 0 < 256 = (λ i. omega (arith, c.type_inv.src i)) in
    let r = c.differ-is_reversed.result in
    let m = c.args.to.is_premultiplied in
    let same = is c.in-Some-Some.one c.in-Some-Some.other r 4 (c.order.ensures c.in-Some-Some.one c.in-Some-Some.is-0) (c.order-2.ensures c.in-Some-Some.other c.in-Some-Some.is-1)
    c.differ-is_reversed.ensures c.in-4.is (plain.count t) (plain.straight t) in
    rw (c.in-4.is, plain.none t, plain.count t, plain.to_none t)
    (each_of_four (recolored g.T.Table.curve r m) f c.args.src.now c.map_eights.new.dst c.map_eights.result small same c.map_eights.ensures.each)

pub returns-in-3-clause-each : goal.returns-in-3-clause-each
returns-in-3-clause-each g c = λ f is.
    let t : c.are_plain.result ≡ true = grind (arith, c.if-not-are_plain.false) in
    let plain = c.are_plain.ensures in
    let small : (i : ℕ) → get_or c.args.src.now i 0 < 256 = (λ i. omega (arith, c.type_inv.src i)) in
    let r = c.differ-is_reversed.result in
    let m = c.args.to.is_premultiplied in
    let same = is c.in-Some-Some.one c.in-Some-Some.other r 3 (c.order.ensures c.in-Some-Some.one c.in-Some-Some.is-0) (c.order-2.ensures c.in-Some-Some.other c.in-Some-Some.is-1)
    c.differ-is_reversed.ensures c.in-3.is (plain.count t) (plain.straight t) in
    rw (c.in-3.is, plain.none t, plain.count t, plain.to_none t)
    (each_of_three (recolored g.T.Table.curve r m) f c.args.src.now c.map_eights_opaque.new.dst c.map_eights_opaque.result small same (c.map_eights_opaque.ensures.each m))
