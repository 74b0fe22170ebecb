-- Of `is_no_worse`: that the numbers fit, and what they tell.
use Rattle.std.proofs.Common.{◌≡◌, ◌-◌, ◌*◌, ◌≤◌, ◌∙◌, arith, refl}
use Rattle.std.proofs.Math.Nat.{mul-le-mul_left}
use Rattle.pix_table.specs.SeenPixels.{seen_numbers}
use Rattle.pix_table.specs.quantization.SeenGroups.{product_by}
use Rattle.pix_table.proofs.lemmas.quantization.SeenErrors.{compared, sums_few, terms_few}
use Rattle.pix_table.proofs.rgba.groups.is_no_worse.Goals as goal

pub overflow_sub-all : goal.overflow_sub-all
overflow_sub-all c = (sums_few c.requires.sums.0 c.args.sums c.requires.sums.1).alpha

pub product-requires-2-clause-by_red : goal.product-requires-2-clause-by_red
product-requires-2-clause-by_red c = omega (arith, (terms_few c.requires.sums.0 c.args.sums c.requires.sums.1).0)

pub product-requires-2-clause-by_green : goal.product-requires-2-clause-by_green
product-requires-2-clause-by_green c = omega (arith, (terms_few c.requires.sums.0 c.args.sums c.requires.sums.1).1)

pub product-requires-2-clause-by_blue : goal.product-requires-2-clause-by_blue
product-requires-2-clause-by_blue c = omega (arith, (terms_few c.requires.sums.0 c.args.sums c.requires.sums.1).2)

pub product-requires-4-clause-by_red : goal.product-requires-4-clause-by_red
product-requires-4-clause-by_red c = omega (arith, (terms_few c.requires.sums.0 c.args.sums c.requires.sums.1).0)

pub product-requires-4-clause-by_green : goal.product-requires-4-clause-by_green
product-requires-4-clause-by_green c = omega (arith, (terms_few c.requires.sums.0 c.args.sums c.requires.sums.1).1)

pub product-requires-4-clause-by_blue : goal.product-requires-4-clause-by_blue
product-requires-4-clause-by_blue c = omega (arith, (terms_few c.requires.sums.0 c.args.sums c.requires.sums.1).2)

pub overflow_mul-result-2 : goal.overflow_mul-result-2
overflow_mul-result-2 c =
    let few = terms_few c.requires.sums.0 c.args.sums c.requires.sums.1 in
    omega (arith, c.product-2.ensures.few (255 * c.args.sums.count) few.0 few.1 few.2)

pub overflow_add-result : goal.overflow_add-result
overflow_add-result c =
    let few = terms_few c.requires.sums.0 c.args.sums c.requires.sums.1 in
    let n = c.of-new.ensures in
    let r = c.requires.new in
    let own : c.product.result ≤ 1530 * 255 =
    c.product.ensures.few 255 (omega (arith, n.red, n.rest, r.red, r.alpha)) (omega (arith, n.green, n.rest, r.green, r.alpha)) (omega (arith, n.blue, n.rest, r.blue, r.alpha)) in
    omega (arith, mul-le-mul_left c.args.sums.count own, c.product-2.ensures.few (255 * c.args.sums.count) few.0 few.1 few.2)

pub overflow_mul-result-4 : goal.overflow_mul-result-4
overflow_mul-result-4 c =
    let few = terms_few c.requires.sums.0 c.args.sums c.requires.sums.1 in
    omega (arith, c.product-4.ensures.few (255 * c.args.sums.count) few.0 few.1 few.2)

pub overflow_add-result-2 : goal.overflow_add-result-2
overflow_add-result-2 c =
    let few = terms_few c.requires.sums.0 c.args.sums c.requires.sums.1 in
    let n = c.of-old.ensures in
    let r = c.requires.old in
    let own : c.product-3.result ≤ 1530 * 255 =
    c.product-3.ensures.few 255 (omega (arith, n.red, n.rest, r.red, r.alpha)) (omega (arith, n.green, n.rest, r.green, r.alpha)) (omega (arith, n.blue, n.rest, r.blue, r.alpha)) in
    omega (arith, mul-le-mul_left c.args.sums.count own, c.product-4.ensures.few (255 * c.args.sums.count) few.0 few.1 few.2)

pub returns : goal.returns
returns c = λ group h.
    let s = c.args.sums in
    let p = c.args.new in
    let q = c.args.old in
    let n = c.of-new.ensures in
    let o = c.of-old.ensures in
    let one : c.product.result ≡ product_by c.args.new.red c.args.new.green c.args.new.blue (255 - c.args.new.alpha) c.args.new.red c.args.new.green c.args.new.blue (255 - c.args.new.alpha) =
    c.product.ensures.product ∙ rw (n.red, n.green, n.blue, n.rest) refl in
    let two : c.product-2.result ≡ product_by c.args.old.red c.args.old.green c.args.old.blue (255 - c.args.old.alpha) c.args.sums.red c.args.sums.green c.args.sums.blue (255 * c.args.sums.count - c.args.sums.alpha) =
    c.product-2.ensures.product ∙ rw (o.red, o.green, o.blue, o.rest) refl in
    let three : c.product-3.result ≡ product_by c.args.old.red c.args.old.green c.args.old.blue (255 - c.args.old.alpha) c.args.old.red c.args.old.green c.args.old.blue (255 - c.args.old.alpha) =
    c.product-3.ensures.product ∙ rw (o.red, o.green, o.blue, o.rest) refl in
    let four : c.product-4.result ≡ product_by c.args.new.red c.args.new.green c.args.new.blue (255 - c.args.new.alpha) c.args.sums.red c.args.sums.green c.args.sums.blue (255 * c.args.sums.count - c.args.sums.alpha) =
    c.product-4.ensures.product ∙ rw (n.red, n.green, n.blue, n.rest) refl in
    rw (one, two, three, four) (compared (seen_numbers p) (seen_numbers q) group s h)
