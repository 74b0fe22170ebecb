use Rattle.std.proofs.Common.{◌≡◌, ℕ, ◌+◌, ◌-◌, ◌*◌, ◌<◌, ◌≤◌, length, map, arith, rules, refl, sym, ap, subst, ◌∙◌}
use borrow.Rule.Slice.PartMut.{put_mid}
use Rattle.std.proofs.Math.Nat.{mul-le-mul_right}
use Rattle.pix_scale.proofs.Sums.{length_part, at_of_part}
use Rattle.pix_scale.specs.Table.{flat}
use Rattle.pix_scale.proofs.Terms.{Added}
use Rattle.pix_scale.proofs.Flat.{added_part, added_start, flat_part}
use Rattle.pix_scale.proofs.rows.add_blocks.Goals as goal

pub loop-b-init : goal.loop-b-init
loop-b-init g c = added_start _ _ _ (omega arith)

pub slice_bounds-add_eight-end : goal.slice_bounds-add_eight-end
slice_bounds-add_eight-end g c =
    let n = length c.channels-count.result.now in
    let last : (c.loop-b.b + 1) * 8 ≤ length c.args.row.now = omega (arith, c.requires.blocks, c.loop-b-test.true) in
    let long : length c.args.sums.now ≡ length c.args.row.now * n = c.requires.long ∙ ap (λ (z : ℕ). length c.args.row.now * z) (sym c.channels-count.ensures.count) in
    let fits : c.loop-b.b * 8 * n + 8 * n ≤ length c.loop-b.sums = omega (arith, mul-le-mul_right n last, long, c.loop-b.auto.sums) in
    search rules

pub loop-b-preserved : goal.loop-b-preserved
loop-b-preserved g c =
    let n = length c.channels-count.result.now in
    let count = g.P.Pixel.layout.count in
    let r = g.D.Stored.reads in
    let row = c.args.row.now in
    let at : ℕ = c.loop-b.b * 8 in
    let start : ℕ = at * n in
    let same : n ≡ count = c.channels-count.ensures.count in
    let last : (c.loop-b.b + 1) * 8 ≤ length row = omega (arith, c.requires.blocks, c.loop-b-test.true) in
    let within : (c.loop-b.b + 1) * 8 * n ≤ length row * n = mul-le-mul_right n last in
    let long : length c.args.sums.now ≡ length row * n = c.requires.long ∙ ap (λ (z : ℕ). length row * z) (sym same) in
    let next : start + 8 * n ≡ (c.loop-b.b + 1) * 8 * n = omega arith in
    let k : ℕ = start + 8 * n - start in
    let size = length_part c.loop-b.sums start k (omega (arith, within, next, long)) in
    let m : ℕ = at + 8 - at in
    let eight : m ≡ 8 = omega arith in
    let term : ℕ → ℕ = λ x. c.args.weight * flat count (map r row) x in
    subst (λ (z : ℕ). Added c.args.sums.now (put_mid start k c.loop-b.sums c.add_eight.new.sums) term z) next
    (added_part c.args.sums.now c.loop-b.sums c.add_eight.new.sums term start (8 * n) k
    (omega (arith, within, next, long)) (omega (arith, c.add_eight.auto.sums, size)) (omega arith) c.loop-b.invariant
    (λ x lt.
    let a = at_of_part c.loop-b.sums start k x (omega arith) in
    let in_ : x < m * count = omega (arith, same, lt, ap (λ (z : ℕ). z * count) eight) in
    let place : at * count + x ≡ start + x = omega (arith, ap (λ (z : ℕ). at * z) same) in
    let b = flat_part r count row at m x c.requires.some in_ ∙ ap (flat count (map r row)) place in
    c.add_eight.ensures x (omega (arith, size, lt)) ∙ rw (a, b) refl))

pub returns : goal.returns
returns g c = λ x lt.
    let n = length c.channels-count.result.now in
    let long : length c.args.sums.now ≡ length c.args.row.now * n = c.requires.long ∙ ap (λ (z : ℕ). length c.args.row.now * z) (sym c.channels-count.ensures.count) in
    let all : c.loop-b.b * 8 ≡ length c.args.row.now = omega (arith, c.requires.blocks) in
    c.loop-b.invariant.done x (omega (arith, lt, long, ap (λ (z : ℕ). z * n) all))
