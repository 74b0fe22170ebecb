use Rattle.std.proofs.Common.{◌≤◌, ◌*◌, ap, arith}
use Rattle.std.proofs.Math.Nat.{mul-le-mul_left, mul-le-mul}
use Rattle.pix_scale.proofs.Calls.{sizes}
use Rattle.pix_scale.proofs.refuse.words.Goals as goal

pub overflow_add-result-3 : goal.overflow_add-result-3
overflow_add-result-3 g c =
    let few = sizes g.C.Channel.max c.args.filter c.args.view c.args.from c.requires.sizes in
    let a : c.taps-across.result ≤ 65535 = omega (arith, c.taps-across.ensures.small, c.new.ensures.places, few.few_columns) in
    let b : c.taps-down.result ≤ 65535 = omega (arith, c.taps-down.ensures.small, c.new-2.ensures.places, few.few_rows) in
    let p = mul-le-mul_left c.from-width.result a in
    let q = mul-le-mul few.few_columns c.requires.count in
    let r = ap (λ w. w * c.args.count) c.from.ensures in
    record { fits = omega (arith, p, q, r, b, c.from-width.ensures, c.from.ensures) }
