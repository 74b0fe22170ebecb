use Rattle.std.proofs.Common.{◌≡◌, ℕ, ◌+◌, ◌-◌, ◌*◌, ◌<◌, ◌≤◌, length, map, get_or, slice_index, List, arith, rules, ap, ◌∙◌}
use borrow.Rule.Slice.PartMut.{put_mid}
use Rattle.std.proofs.Math.Nat.{mul-le-mul_right}
use Rattle.std.proofs.lemmas.Nat.{mul-add-lt}
use Rattle.pix_scale.specs.Axis.{total, channel_at}
use Rattle.pix_scale.specs.Signed.{sum_by}
use Rattle.pix_scale.specs.SignedTable.{left_at, taps_at, taps_of}
use Rattle.pix_scale.proofs.Drawn.{sub_times, in_sums}
use Rattle.pix_scale.proofs.Parts.{length-put_mid}
use Rattle.pix_scale.proofs.Windows.{rows_fit, length_rest}
use Rattle.pix_scale.proofs.SignedSums.{cut_same}
use Rattle.pix_scale.proofs.SignedRows.{rows_read, left_is, window_size}
use Rattle.pix_scale.proofs.signed_rows.cut_row.Goals as goal

pub offset_bounds-from-start : goal.offset_bounds-from-start
offset_bounds-from-start g c = omega (arith, c.requires.down_inside 0 c.requires.down_some, c.requires.order, c.requires.within)

pub slice_bounds-sum_left-count-3 : goal.slice_bounds-sum_left-count-3
slice_bounds-sum_left-count-3 g c = omega (arith, c.requires.down_inside 0 c.requires.down_some, c.requires.order, c.requires.within)

pub slice_bounds-sum_left-start-3 : goal.slice_bounds-sum_left-start-3
slice_bounds-sum_left-start-3 g c =
    let fits : c.args.first * c.args.stride + c.args.low ≤ length c.args.from.now = omega (arith, c.requires.down_inside 0 c.requires.down_some, c.requires.order, c.requires.within) in
    search rules

pub sum_left-requires-clause-sums : goal.sum_left-requires-clause-sums
sum_left-requires-clause-sums g c =
    let n = length c.channels-n.result.now in
    window_size c.args.sums.now c.args.low c.args.high c.args.places n g.P.Pixel.layout.count c.channels-n.ensures.count c.requires.order c.requires.within c.requires.sums

pub sum_left-requires-clause-taken : goal.sum_left-requires-clause-taken
sum_left-requires-clause-taken g c =
    let n = length c.channels-n.result.now in
    window_size c.args.taken.now c.args.low c.args.high c.args.places n g.P.Pixel.layout.count c.channels-n.ensures.count c.requires.order c.requires.within c.requires.taken

pub sum_left-requires-clause-inside : goal.sum_left-requires-clause-inside
sum_left-requires-clause-inside g c = λ k lt.
    let start : ℕ = c.args.first * c.args.stride + c.args.low in
    let inside = c.requires.down_inside k lt in
    omega (arith, length_rest c.args.from.now start, rows_fit c.args.first k c.args.stride c.args.high c.args.low (length c.args.from.now) (omega (arith, inside, c.requires.within)) c.requires.order)

pub sum_left-requires-clause-plus_small : goal.sum_left-requires-clause-plus_small
sum_left-requires-clause-plus_small g c = omega (arith, c.requires.down_adds_up, c.requires.down_small)

pub sum_left-requires-clause-minus_small : goal.sum_left-requires-clause-minus_small
sum_left-requires-clause-minus_small g c =
    let same = ap (λ n. total n (slice_index c.args.down_minus.now)) c.requires.same in
    omega (arith, same, c.requires.down_small)

pub write_cut_row-requires-clause-inside : goal.write_cut_row-requires-clause-inside
write_cut_row-requires-clause-inside g c = λ i lt.
    let count = g.P.Pixel.layout.count in
    let n = length c.channels-n.result.now in
    let same : n ≡ count = c.channels-n.ensures.count in
    let low = c.args.low in
    let within = sub_times low c.args.high count c.requires.order in
    let a : low * n ≡ low * count = ap (λ z. low * z) same in
    let b : c.args.high * n ≡ c.args.high * count = ap (λ z. c.args.high * z) same in
    let few = mul-le-mul_right count c.requires.within in
    let cut = window_size c.args.sums.now low c.args.high c.args.places n count same c.requires.order c.requires.within c.requires.sums in
    let long : length c.sum_left.new.sums ≡ c.args.high * n - low * n = omega (arith, c.sum_left.auto.sums, cut, a, b, within) in
    let all = length-put_mid (low * n) (c.args.high * n - low * n) c.args.sums.now c.sum_left.new.sums long (omega (arith, a, b, within, few, c.requires.sums)) in
    omega (arith, all, c.requires.sums, mul-le-mul_right count (c.requires.table.inside i lt))

pub returns : goal.returns
returns g c = λ i ch lt in_.
    let count = g.P.Pixel.layout.count in
    let r = g.D.Stored.reads in
    let n = length c.channels-n.result.now in
    let same : n ≡ count = c.channels-n.ensures.count in
    let from = c.args.from.now in
    let firsts = c.args.firsts.now in
    let taps = c.args.taps in
    let low = c.args.low in
    let high = c.args.high in
    let first : ℕ = get_or firsts i 0 in
    let dp = c.args.down_plus.now in
    let dm = c.args.down_minus.now in
    let stride = c.args.stride in
    let get : ℕ → ℕ → ℕ → ℕ = channel_at (map r from) stride in
    let plus = c.args.plus.now in
    let minus = c.args.minus.now in
    let part = c.sum_left.new.sums in
    let k : ℕ = high * n - low * n in
    let sums : List ℕ = put_mid (low * n) k c.args.sums.now part in
    let within = sub_times low high count c.requires.order in
    let few = mul-le-mul_right count c.requires.within in
    let cut = window_size c.args.sums.now low high c.args.places n count same c.requires.order c.requires.within c.requires.sums in
    let long : length part ≡ (high - low) * count = omega (arith, c.sum_left.auto.sums, cut) in
    let lo = c.requires.low i lt in
    let hi = c.requires.high i lt in
    let both : (ch : ℕ) → ch < count → left_at plus minus taps i sums count first ch ≡ sum_by (taps_at firsts plus minus taps i) (taps_of c.args.first dp dm) (get ch) =
    λ ch lc. left_is firsts plus minus dp dm taps i c.args.first count ch sums (get ch) (c.requires.table.adds_up i lt) (λ k lk.
    let u : ℕ = first + k in
    let v : ℕ = (u - low) * count + ch in
    let place : first * count + (k * count + ch) ≡ u * count + ch = omega arith in
    let sub : v < (high - low) * count = omega (arith, mul-add-lt (u - low) count ch (high - low) (omega (arith, lo, hi, lk)) lc) in
    let read : get_or sums (first * count + (k * count + ch)) 0 ≡ get_or part v 0 =
    ap (λ (p : ℕ). get_or sums p 0) place
    ∙ in_sums n _ c.args.sums.now part low u count ch same (omega (arith, lo)) (omega (arith, within, few, c.requires.sums)) (omega (arith, sub, long)) in
    let left = c.sum_left.ensures v (omega (arith, sub, cut)) in
    let p = rows_read r count stride c.args.first low from dp (length dp) u ch (omega (arith, lo)) lc in
    let q = rows_read r count stride c.args.first low from dm (length dm) u ch (omega (arith, lo)) lc in
    let all = ap (λ n. total n (λ v. get_or dm v 0 * get ch u (c.args.first + v))) c.requires.same in
    omega (arith, read, left, p, q, all)) in
    c.write_cut_row.ensures i ch lt in_
    ∙ cut_same g.P.Pixel.layout (left_at plus minus taps i sums count first) (λ ch. sum_by (taps_at firsts plus minus taps i) (taps_of c.args.first dp dm) (get ch)) ch
    (both g.P.Pixel.layout.alpha) (both ch in_)
