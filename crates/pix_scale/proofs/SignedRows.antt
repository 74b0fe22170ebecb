-- A row of pixels, by weights that may be negative, from the sums of its columns.
use Rattle.std.specs.Prelude.{◌≡◌, ℕ, ℤ, zero, suc, pos, ◌-ℤ◌, ◌*ℤ◌, ◌+◌, ◌-◌, ◌*◌, ◌^◌, ◌<◌, ◌≤◌, List, [], length, map, slice_index, refl}
use Rattle.std.proofs.Common.{get_or, take, drop, arith, ap, sym, ◌∙◌}
use Rattle.std.proofs.Math.Nat.{mul-le-mul_right, mul-le-mul}
use Rattle.pix_scale.specs.Axis.{total, channel_at}
use Rattle.pix_scale.specs.Table.{flat, row_term, tap}
use Rattle.pix_scale.specs.Signed.{Taps, total_of, sum_by, cut_by}
use Rattle.pix_scale.specs.SignedTable.{left_at, taps_at, taps_of}
use Rattle.pix_scale.proofs.Drawn.{value_of_rest, sub_times}
use Rattle.pix_scale.proofs.Flat.{flat_at}
use Rattle.pix_scale.proofs.Sums.{total_same, sum_small, at_of_part, length_part, tap_total}
use Rattle.pix_scale.proofs.SignedSums.{total_left, whole_total, total_of_same, cut_same}
use Rattle.pix_el.specs.Pixel.{Layout}

-- the sums of rows at a place are those of a column of the picture, from column `low` on
pub rows_read : {D : Type 0} (r : D → List ℕ) (count stride first low : ℕ) (from : List D) (weights : List ℕ) (n u ch : ℕ) → low ≤ u → ch < count
    → total n (row_term weights (flat count (map r (take (length from - (first * stride + low)) (drop (first * stride + low) from)))) (stride * count) ((u - low) * count + ch))
    ≡ total n (λ v. get_or weights v 0 * channel_at (map r from) stride ch u (first + v))
rows_read r count stride first low from weights n u ch le lt =
    let start : ℕ = first * stride + low in
    let place : ℕ = (u - low) * count + ch in
    let rest : List (List ℕ) = map r (take (length from - start) (drop start from)) in
    total_same n (row_term weights (flat count rest) (stride * count) place) (λ v. get_or weights v 0 * channel_at (map r from) stride ch u (first + v)) (λ v lv.
    let p : ℕ = v * stride + (u - low) in
    let e : v * (stride * count) + place ≡ p * count + ch = omega arith in
    let there : start + p ≡ (first + v) * stride + u = omega arith in
    ap (λ z. get_or weights v 0 * z)
    (ap (flat count rest) e ∙ flat_at count p ch rest lt
    ∙ ap (λ l. get_or l ch 0) (value_of_rest r from start p ∙ ap (λ q. get_or (map r from) q []) there)))

-- the sums of the columns of a window
pub window_size : (sums : List ℕ) (low high places n count : ℕ) → n ≡ count → low ≤ high → high ≤ places → length sums ≡ places * count
    → length (take (high * n - low * n) (drop (low * n) sums)) ≡ (high - low) * count
window_size sums low high places n count same order within long =
    let a : low * n ≡ low * count = ap (λ (z : ℕ). low * z) same in
    let b : high * n ≡ high * count = ap (λ (z : ℕ). high * z) same in
    let s = sub_times low high count order in
    let few = mul-le-mul_right count within in
    let cut = length_part sums (low * n) (high * n - low * n) (omega (arith, a, b, s, few, long)) in
    omega (arith, cut, a, b, s)

-- what is left of the sums is the sum by both rows of weights
pub left_is : (firsts plus minus down_plus down_minus : List ℕ) (taps i first n c : ℕ) (sums : List ℕ) (get : ℕ → ℕ → ℕ)
    → total taps (tap plus taps i) ≡ 16384 + total taps (tap minus taps i)
    → ((k : ℕ) → k < taps → get_or sums (get_or firsts i 0 * n + (k * n + c)) 0 + total (length down_plus) (λ v. get_or down_minus v 0 * get (get_or firsts i 0 + k) (first + v))
    ≡ 2 ^ 31 + total (length down_plus) (λ v. get_or down_plus v 0 * get (get_or firsts i 0 + k) (first + v)))
    → left_at plus minus taps i sums n (get_or firsts i 0) c ≡ sum_by (taps_at firsts plus minus taps i) (taps_of first down_plus down_minus) get
left_is firsts plus minus down_plus down_minus taps i first n c sums get adds_up reads =
    let f : ℕ = get_or firsts i 0 in
    let a : ℕ → ℕ = tap plus taps i in
    let t : ℕ → ℕ = tap minus taps i in
    let m : ℕ = length down_plus in
    let p : ℕ → ℕ = λ k. total m (λ v. get_or down_plus v 0 * get (f + k) (first + v)) in
    let q : ℕ → ℕ = λ k. total m (λ v. get_or down_minus v 0 * get (f + k) (first + v)) in
    let d : ℕ → ℕ = λ k. get_or sums (f * n + (k * n + c)) 0 in
    let column : ℕ → ℤ = λ k. total_of m (λ v. (pos (get_or down_plus v 0) -ℤ pos (get_or down_minus v 0)) *ℤ pos (get (f + k) (first + v))) in
    sym (total_of_same taps (λ k. (pos (a k) -ℤ pos (t k)) *ℤ column k) (λ k. (pos (a k) -ℤ pos (t k)) *ℤ (pos (p k) -ℤ pos (q k)))
    (λ k lk. ap (λ z. (pos (a k) -ℤ pos (t k)) *ℤ z) (total_left m (λ v. get_or down_plus v 0) (λ v. get_or down_minus v 0) (λ v. get (f + k) (first + v))))
    ∙ whole_total taps 2147483648 16384 a t d p q reads adds_up)

-- weighted sums of rows are small
pub rows_small : (weights : List ℕ) (numbers : ℕ → ℕ) (stride x max : ℕ) → ((k : ℕ) → numbers k ≤ max) → max < 65536 → total (length weights) (slice_index weights) < 24576
    → total (length weights) (row_term weights numbers stride x) < 2 ^ 31
rows_small weights numbers stride x max small narrow few =
    let s = sum_small weights numbers stride x (length weights) max small in
    let m : total (length weights) (slice_index weights) * max ≤ 24575 * 65535 = mul-le-mul (let a : total (length weights) (slice_index weights) ≤ 24575 = omega arith in a) (let b : max ≤ 65535 = omega arith in b) in
    omega (arith, s, m)

-- weights that are small, times a maximum
pub weights_fit : (total max : ℕ) → max < 65536 → total < 24576 → total * max < 4294967296
weights_fit total max narrow few =
    let m : total * max ≤ 24575 * 65535 = mul-le-mul (let a : total ≤ 24575 = omega arith in a) (let b : max ≤ 65535 = omega arith in b) in
    omega (arith, m)

-- the same weights of the same places
pub record SameTaps (a b : Taps) : Type 0 where
  pub first : a.first ≡ b.first
  pub count : a.count ≡ b.count
  pub weight : (k : ℕ) → k < a.count → a.weight k ≡ b.weight k

column_same : (a b : Taps) (f : ℕ → ℕ) → SameTaps a b
    → total_of a.count (λ v. a.weight v *ℤ pos (f (a.first + v))) ≡ total_of b.count (λ v. b.weight v *ℤ pos (f (b.first + v)))
column_same a b f s =
    let g : ℕ → ℤ = λ v. b.weight v *ℤ pos (f (b.first + v)) in
    total_of_same a.count (λ v. a.weight v *ℤ pos (f (a.first + v))) g
    (λ v lt. ap (λ w. w *ℤ pos (f (a.first + v))) (s.weight v lt) ∙ ap (λ p. b.weight v *ℤ pos (f (p + v))) s.first)
    ∙ ap (λ n. total_of n g) s.count

pub sum_same : (a b c d : Taps) (get : ℕ → ℕ → ℕ) → SameTaps a b → SameTaps c d → sum_by a c get ≡ sum_by b d get
sum_same a b c d get s t =
    let inner : Taps → ℕ → ℤ = λ x u. total_of x.count (λ v. x.weight v *ℤ pos (get u (x.first + v))) in
    let g : ℕ → ℤ = λ u. b.weight u *ℤ inner d (b.first + u) in
    total_of_same a.count (λ u. a.weight u *ℤ inner c (a.first + u)) g
    (λ u lt. ap (λ w. w *ℤ inner c (a.first + u)) (s.weight u lt)
    ∙ ap (λ p. b.weight u *ℤ inner c (p + u)) s.first
    ∙ ap (λ z. b.weight u *ℤ z) (column_same c d (get (b.first + u)) t))
    ∙ ap (λ n. total_of n g) s.count

-- the pixels that both cut
pub same_cut : (layout : Layout) (a b c d : Taps) (get : ℕ → ℕ → ℕ → ℕ) (ch : ℕ) → SameTaps a b → SameTaps c d
    → cut_by layout (λ ch. sum_by a c (get ch)) ch ≡ cut_by layout (λ ch. sum_by b d (get ch)) ch
same_cut layout a b c d get ch s t =
    cut_same layout (λ ch. sum_by a c (get ch)) (λ ch. sum_by b d (get ch)) ch (λ lt. sum_same a b c d (get layout.alpha) s t) (sum_same a b c d (get ch) s t)

pub same_taps : (a : Taps) → SameTaps a a
same_taps a = record { first = refl; count = refl; weight = λ k lt. refl }

-- a row of a table as lists of its own
pub row_taps : (firsts plus minus : List ℕ) (taps y m q : ℕ) → m ≡ taps → q ≡ taps → y * taps + taps ≤ length plus → y * taps + taps ≤ length minus
    → SameTaps (taps_of (get_or firsts y 0) (take m (drop (y * taps) plus)) (take q (drop (y * taps) minus))) (taps_at firsts plus minus taps y)
row_taps firsts plus minus taps y m q e f a b =
    let long = length_part plus (y * taps) m (omega arith) in
    record {
      first = refl;
      count = omega (arith, long);
      weight = λ k lt.
          let p = at_of_part plus (y * taps) m k (omega (arith, long)) in
          let n = at_of_part minus (y * taps) q k (omega (arith, long)) in
          rw (p, n) refl;
    }

-- a row of weights that add up to something has some
pub some_weights : (n : ℕ) (f g : ℕ → ℕ) → total n f ≡ 16384 + total n g → 0 < n
some_weights zero f g e = absurd (omega (arith, e))
some_weights (suc n) f g e = omega arith

-- the weights of a row of a table add up as it says
pub part_adds : (plus minus : List ℕ) (taps y m q : ℕ) → m ≡ taps → q ≡ taps → y * taps + taps ≤ length plus → y * taps + taps ≤ length minus
    → total taps (tap plus taps y) ≡ 16384 + total taps (tap minus taps y) → total taps (tap minus taps y) < 8192
    → (total (length (take m (drop (y * taps) plus))) (slice_index (take m (drop (y * taps) plus)))
    ≡ 16384 + total (length (take m (drop (y * taps) plus))) (slice_index (take q (drop (y * taps) minus))))
    × (total (length (take m (drop (y * taps) plus))) (slice_index (take q (drop (y * taps) minus))) < 8192)
part_adds plus minus taps y m q e f a b adds_up small =
    let p = tap_total plus taps y m e a in
    let n = tap_total minus taps y q f b in
    let x = length_part plus (y * taps) m (omega arith) in
    let z = length_part minus (y * taps) q (omega arith) in
    let same : length (take m (drop (y * taps) plus)) ≡ length (take q (drop (y * taps) minus)) = omega (arith, x, z) in
    let s = ap (λ k. total k (slice_index (take q (drop (y * taps) minus)))) same in
    (omega (arith, p, n, s, adds_up), omega (arith, n, s, small))
