use Rattle.std.specs.Prelude.{pos}
use Rattle.std.proofs.Common.{◌≡◌, ℕ, ◌+◌, ◌-◌, ◌*◌, ◌<◌, length, map, get_or, slice_index, List, take, drop, arith, ap, ◌∙◌}
use borrow.Rule.Slice.PartMut.{put_mid}
use Rattle.std.proofs.Math.Nat.{mul-le-mul_right}
use Rattle.std.proofs.lemmas.Nat.{mul-add-lt}
use Rattle.pix_el.specs.Pixel.{Layout}
use Rattle.pix_chan.specs.Nearest.{nearest}
use Rattle.pix_scale.specs.Axis.{total, channel_at}
use Rattle.pix_scale.specs.Table.{flat}
use Rattle.pix_scale.proofs.Places.{column}
use Rattle.pix_scale.proofs.Sums.{sum_small, length_part}
use Rattle.pix_scale.proofs.Drawn.{sub_times, in_sums, sums_read, pixel_small_at}
use Rattle.pix_scale.proofs.Parts.{length-put_mid}
use Rattle.pix_scale.proofs.Flat.{flat_small}
use Rattle.pix_scale.proofs.Windows.{rows_fit, length_rest, pixel_of_row}
use Rattle.pix_scale.proofs.row.scale_row.Goals as goal

pub sum_rows-requires-clause-inside : goal.sum_rows-requires-clause-inside
sum_rows-requires-clause-inside g c = λ k lt.
    let start : ℕ = c.args.first * c.args.stride + c.args.low in
    let inside = c.requires.down_inside k lt in
    omega (arith, length_rest c.args.from.now start, rows_fit c.args.first k c.args.stride c.args.high c.args.low (length c.args.from.now) inside c.requires.order)

pub sum_rows-requires-clause-long : goal.sum_rows-requires-clause-long
sum_rows-requires-clause-long g c =
    let n = length c.channels-n.result.now in
    let count = g.P.Pixel.layout.count in
    let same : n ≡ count = c.channels-n.ensures.count in
    let a : c.args.low * n ≡ c.args.low * count = ap (λ z. c.args.low * z) same in
    let b : c.args.high * n ≡ c.args.high * count = ap (λ z. c.args.high * z) same in
    let s = sub_times c.args.low c.args.high count c.requires.order in
    let long = length_part c.args.sums.now (c.args.low * n) (c.args.high * n - c.args.low * n) (omega (arith, a, b, s, c.requires.sums)) in
    omega (arith, long, a, b, s)

pub write_row-requires-clause-bound : goal.write_row-requires-clause-bound
write_row-requires-clause-bound g c = λ i ch lt in_.
    let count = g.P.Pixel.layout.count in
    let r = g.D.Stored.reads in
    let max = g.P.Chan.Channel.max in
    let n = length c.channels-n.result.now in
    let same : n ≡ count = c.channels-n.ensures.count in
    let down : ℕ = total (length c.args.down.now) (slice_index c.args.down.now) in
    let first : ℕ = get_or c.args.firsts.now i 0 in
    let low = c.args.low in
    let start : ℕ = c.args.first * c.args.stride + low in
    let part = take (length c.args.from.now - start) (drop start c.args.from.now) in
    let within = sub_times low c.args.high count c.requires.order in
    let a : low * n ≡ low * count = ap (λ z. low * z) same in
    let b : c.args.high * n ≡ c.args.high * count = ap (λ z. c.args.high * z) same in
    let cut = length_part c.args.sums.now (low * n) (c.args.high * n - low * n) (omega (arith, a, b, within, c.requires.sums)) in
    let long : length c.sum_rows.new.sums ≡ (c.args.high - low) * count = omega (arith, c.sum_rows.auto.sums, cut, a, b, within) in
    let lo = c.requires.low i lt in
    let hi = c.requires.high i lt in
    let sums : List ℕ = put_mid (low * n) (c.args.high * n - low * n) c.args.sums.now c.sum_rows.new.sums in
    let small = pixel_small_at c.args.weights.now c.args.taps i sums count first ch (down * max) (λ k lk.
    let u : ℕ = first + k in
    let sub : (u - low) * count + ch < (c.args.high - low) * count = omega (arith, mul-add-lt (u - low) count ch (c.args.high - low) (omega arith) in_) in
    let read = in_sums n (c.args.high * n - low * n) c.args.sums.now c.sum_rows.new.sums low u count ch same (omega arith) (omega (arith, within, c.requires.sums)) (omega (arith, sub, within, long)) in
    let e = c.sum_rows.ensures ((u - low) * count + ch) (omega (arith, sub, long)) in
    let s = sum_small c.args.down.now (flat count (map r part)) (c.args.stride * count) ((u - low) * count + ch) (length c.args.down.now) max
    (flat_small r g.P.Pixel.layout.max max count (ap (λ (l : Layout). l.max) g.met.P.Pixel.laid_out) g.met.D.Stored.fits part) in
    omega (arith, read, e, s)) in
    let bound = mul-le-mul_right max (c.requires.bound i lt) in
    omega (arith, small, bound)

pub write_row-requires-clause-inside : goal.write_row-requires-clause-inside
write_row-requires-clause-inside g c = λ i lt.
    let count = g.P.Pixel.layout.count in
    let n = length c.channels-n.result.now in
    let same : n ≡ count = c.channels-n.ensures.count in
    let low = c.args.low in
    let within = sub_times low c.args.high count c.requires.order in
    let a : low * n ≡ low * count = ap (λ z. low * z) same in
    let b : c.args.high * n ≡ c.args.high * count = ap (λ z. c.args.high * z) same in
    let cut = length_part c.args.sums.now (low * n) (c.args.high * n - low * n) (omega (arith, a, b, within, c.requires.sums)) in
    let long : length c.sum_rows.new.sums ≡ c.args.high * n - low * n = omega (arith, c.sum_rows.auto.sums, cut) in
    let all = length-put_mid (low * n) (c.args.high * n - low * n) c.args.sums.now c.sum_rows.new.sums long (omega (arith, a, b, within, c.requires.sums)) in
    omega (arith, all, c.requires.sums, mul-le-mul_right count (c.requires.high i lt))

pub returns : goal.returns
returns g c = λ across rows at y table row whole i ch lt in_.
    let count = g.P.Pixel.layout.count in
    let r = g.D.Stored.reads in
    let max = g.P.Chan.Channel.max in
    let n = length c.channels-n.result.now in
    let same : n ≡ count = c.channels-n.ensures.count in
    let first : ℕ = get_or c.args.firsts.now i 0 in
    let low = c.args.low in
    let within = sub_times low c.args.high count c.requires.order in
    let a : low * n ≡ low * count = ap (λ z. low * z) same in
    let b : c.args.high * n ≡ c.args.high * count = ap (λ z. c.args.high * z) same in
    let cut = length_part c.args.sums.now (low * n) (c.args.high * n - low * n) (omega (arith, a, b, within, c.requires.sums)) in
    let long : length c.sum_rows.new.sums ≡ (c.args.high - low) * count = omega (arith, c.sum_rows.auto.sums, cut, a, b, within) in
    let lo = c.requires.low i lt in
    let hi = c.requires.high i lt in
    let f : ℕ → ℕ = λ u. column rows y (channel_at (map r c.args.from.now) c.args.stride ch u) in
    c.write_row.ensures i ch lt in_
    ∙ ap (λ s. nearest max (pos s) (pos c.args.by.whole))
    (pixel_of_row across at c.args.firsts.now c.args.weights.now c.args.taps _ count i ch f table lt (λ k lk.
    let u : ℕ = first + k in
    let sub : (u - low) * count + ch < (c.args.high - low) * count = omega (arith, mul-add-lt (u - low) count ch (c.args.high - low) (omega arith) in_) in
    in_sums n _ c.args.sums.now c.sum_rows.new.sums low u count ch same (omega arith) (omega (arith, within, c.requires.sums)) (omega (arith, sub, within, long))
    ∙ c.sum_rows.ensures ((u - low) * count + ch) (omega (arith, sub, long))
    ∙ sums_read r count c.args.stride c.args.first low c.args.from.now rows y c.args.down.now u ch (omega arith) in_ row))
    ∙ ap (λ w. nearest max (pos (total across.places (λ u. across.weight (at + i) u * f u))) (pos w)) whole
