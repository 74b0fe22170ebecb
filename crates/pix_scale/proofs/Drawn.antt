-- The sums of a row of a picture at another size.
use Rattle.std.proofs.Common.{◌≡◌, ℕ, ◌+◌, ◌-◌, ◌*◌, ◌<◌, ◌≤◌, List, [], length, get_or, map, take, drop, arith, refl, sym, ap, subst, ◌∙◌}
use borrow.Rule.Slice.PartMut.{put_mid}
use Rattle.std.proofs.Math.Nat.{mul-le-mul_left}
use Rattle.std.proofs.lemmas.List.{drop-map, get_or-drop, take_all, length-drop}
use Rattle.pix_scale.specs.Axis.{total, Axis, channel_at}
use Rattle.pix_scale.specs.Table.{flat, row_term, pixel_term, tap, IsRow}
use Rattle.pix_scale.proofs.Places.{column}
use Rattle.pix_scale.proofs.Sums.{total_le, total_times}
use Rattle.pix_scale.proofs.Parts.{in_part}
use Rattle.pix_scale.proofs.Flat.{flat_at}
use Rattle.pix_scale.proofs.Windows.{column_of_rows}

pub sub_times : (low high n : ℕ) → low ≤ high → (high - low) * n + low * n ≡ high * n
sub_times low high n le =
    let d : ℕ = high - low in
    let e : low + d ≡ high = omega arith in
    let f : d * n + low * n ≡ (low + d) * n = omega arith in
    f ∙ ap (λ h. h * n) e

-- a sum of the columns from `low` on, by its place in memory
pub in_sums : (n k : ℕ) (sums part : List ℕ) (low u count ch : ℕ) → n ≡ count → low ≤ u → low * count ≤ length sums
    → (u - low) * count + ch < length part
    → get_or (put_mid (low * n) k sums part) (u * count + ch) 0 ≡ get_or part ((u - low) * count + ch) 0
in_sums n k sums part low u count ch same le few lt =
    let a : low * n ≡ low * count = ap (λ z. low * z) same in
    let s = sub_times low u count le in
    let place : low * n + ((u - low) * count + ch) ≡ u * count + ch = omega (arith, a, s) in
    ap (λ p. get_or (put_mid (low * n) k sums part) p 0) (sym place)
    ∙ in_part (low * n) k sums part ((u - low) * count + ch) 0 lt (omega (arith, a, few))

pub value_of_rest : {D : Type 0} (r : D → List ℕ) (xs : List D) (start x : ℕ)
    → get_or (map r (take (length xs - start) (drop start xs))) x [] ≡ get_or (map r xs) (start + x) []
value_of_rest r xs start x =
    let e : take (length xs - start) (drop start xs) ≡ drop start xs = take_all (length xs - start) (drop start xs) (omega (arith, length-drop start xs)) in
    ap (λ l. get_or (map r l) x []) e ∙ rw (← drop-map r start xs, get_or-drop) refl

-- the sums of the rows of a table are those of a column of the picture
pub sums_read : {D : Type 0} (r : D → List ℕ) (count stride first low : ℕ) (from : List D) (down : Axis) (y : ℕ) (weights : List ℕ) (u ch : ℕ)
    → low ≤ u → ch < count → IsRow down y first (length weights) (λ k. get_or weights k 0)
    → total (length weights) (row_term weights (flat count (map r (take (length from - (first * stride + low)) (drop (first * stride + low) from))))
    (stride * count) ((u - low) * count + ch))
    ≡ column down y (channel_at (map r from) stride ch u)
sums_read r count stride first low from down y weights u ch le lt row =
    let start : ℕ = first * stride + low in
    column_of_rows down y first weights (flat count (map r (take (length from - start) (drop start from)))) (stride * count) ((u - low) * count + ch)
    (channel_at (map r from) stride ch u) row (λ k lk.
    let p : ℕ = k * stride + (u - low) in
    let place : k * (stride * count) + ((u - low) * count + ch) ≡ p * count + ch = omega arith in
    let there : start + p ≡ (first + k) * stride + u = omega arith in
    ap (flat count (map r (take (length from - start) (drop start from)))) place
    ∙ flat_at count p ch (map r (take (length from - start) (drop start from))) lt
    ∙ ap (λ l. get_or l ch 0) (value_of_rest r from start p ∙ ap (λ q. get_or (map r from) q []) there))

-- the sum of a pixel is at most its weights together times what each sum is at most
pub pixel_small_at : (weights : List ℕ) (taps i : ℕ) (sums : List ℕ) (n first c top : ℕ)
    → ((k : ℕ) → k < taps → get_or sums ((first + k) * n + c) 0 ≤ top)
    → total taps (pixel_term weights taps i sums n first c) ≤ total taps (tap weights taps i) * top
pixel_small_at weights taps i sums n first c top small =
    let below : total taps (pixel_term weights taps i sums n first c) ≤ total taps (λ k. tap weights taps i k * top) =
    total_le taps (pixel_term weights taps i sums n first c) (λ k. tap weights taps i k * top) (λ k lk.
    let e : (first + k) * n + c ≡ first * n + (k * n + c) = omega arith in
    mul-le-mul_left (tap weights taps i k) (subst (λ p. get_or sums p 0 ≤ top) e (small k lk))) in
    let all = total_times taps top (tap weights taps i) in
    omega (arith, below, all)
