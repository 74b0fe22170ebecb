-- Sums by tables are sums over all places.
use Rattle.std.proofs.Common.{◌≡◌, ℕ, zero, suc, ◌+◌, ◌-◌, ◌*◌, ◌<◌, ◌≤◌, List, length, get_or, take, drop, arith, refl, sym, ap, ◌∙◌}
use Rattle.std.proofs.lemmas.List.{length-take, length-drop}
use Rattle.pix_scale.specs.Axis.{total, Axis}
use Rattle.pix_scale.specs.Table.{row_term, pixel_term, IsRow, IsTable}
use Rattle.pix_scale.proofs.Places.{column}
use Rattle.pix_scale.proofs.Sums.{total_same}

-- a sum of a + b terms
pub total_split : (a b : ℕ) (f : ℕ → ℕ) → total (a + b) f ≡ total a f + total b (λ k. f (a + k))
total_split a zero f = let e : a + 0 ≡ a = omega arith in rw e (omega arith)
total_split a (suc b) f =
    let e : a + suc b ≡ suc (a + b) = omega arith in
    rw e (omega (arith, total_split a b f))

pub total_nothing : (n : ℕ) (f : ℕ → ℕ) → ((k : ℕ) → k < n → f k ≡ 0) → total n f ≡ 0
total_nothing zero f h = refl
total_nothing (suc n) f h = omega (arith, h n (omega arith), total_nothing n f (λ k l. h k (omega arith)))

-- where the other terms are 0, a sum is that of some terms
pub total_part : (n first taps : ℕ) (g : ℕ → ℕ) → first + taps ≤ n
    → ((j : ℕ) → j < first → g j ≡ 0) → ((j : ℕ) → first + taps ≤ j → j < n → g j ≡ 0)
    → total n g ≡ total taps (λ k. g (first + k))
total_part n first taps g le none_before none_after =
    let rest : ℕ = n - (first + taps) in
    let e : n ≡ first + taps + rest = omega arith in
    let cut = total_split (first + taps) rest g in
    let front = total_split first taps g in
    let ahead : total first g ≡ 0 = total_nothing first g none_before in
    let behind : total rest (λ k. g (first + taps + k)) ≡ 0 =
    total_nothing rest (λ k. g (first + taps + k)) (λ k l. none_after (first + taps + k) (omega arith) (omega arith)) in
    ap (λ m. total m g) e ∙ omega (arith, cut, front, ahead, behind)

-- where the other places count nothing, a sum is that of some places
pub total_window : (n first taps : ℕ) (w f : ℕ → ℕ) → first + taps ≤ n
    → ((j : ℕ) → j < first → w j ≡ 0) → ((j : ℕ) → first + taps ≤ j → j < n → w j ≡ 0)
    → total n (λ j. w j * f j) ≡ total taps (λ k. w (first + k) * f (first + k))
total_window n first taps w f le none_before none_after =
    total_part n first taps (λ j. w j * f j) le
    (λ j l. rw (none_before j l) (omega arith)) (λ j l in_. rw (none_after j l in_) (omega arith))

-- the rest of a list from a place on
pub length_rest : {C : Type 0} (xs : List C) (start : ℕ) → length (take (length xs - start) (drop start xs)) ≡ length xs - start
length_rest xs start = omega (arith, length-take (length xs - start) (drop start xs), length-drop start xs)

pub rows_fit : (first k stride n low len : ℕ) → (first + k) * stride + n ≤ len → low ≤ n → k * stride + (n - low) ≤ len - (first * stride + low)
rows_fit first k stride n low len h le =
    let e : (first + k) * stride ≡ first * stride + k * stride = omega arith in
    omega (arith, e, h)

-- The sum of some rows, at a place, is that of all rows.
pub column_of_rows : (down : Axis) (y first : ℕ) (weights : List ℕ) (numbers : ℕ → ℕ) (stride x : ℕ) (get : ℕ → ℕ)
    → IsRow down y first (length weights) (λ k. get_or weights k 0)
    → ((k : ℕ) → k < length weights → numbers (k * stride + x) ≡ get (first + k))
    → total (length weights) (row_term weights numbers stride x) ≡ column down y get
column_of_rows down y first weights numbers stride x get row reads =
    let window = total_window down.places first (length weights) (down.weight y) get row.inside row.none_before row.none_after in
    total_same (length weights) (row_term weights numbers stride x) (λ k. down.weight y (first + k) * get (first + k)) (λ k lk.
    rw (row.weighs k lk, reads k lk) refl)
    ∙ sym window

-- The sum of the pixels of a table is that of all pixels of the row.
pub pixel_of_row : (across : Axis) (at : ℕ) (firsts weights : List ℕ) (taps : ℕ) (sums : List ℕ) (n i c : ℕ) (f : ℕ → ℕ)
    → IsTable across at firsts weights taps → i < length firsts
    → ((k : ℕ) → k < taps → get_or sums ((get_or firsts i 0 + k) * n + c) 0 ≡ f (get_or firsts i 0 + k))
    → total taps (pixel_term weights taps i sums n (get_or firsts i 0) c)
    ≡ total across.places (λ u. across.weight (at + i) u * f u)
pixel_of_row across at firsts weights taps sums n i c f table lt reads =
    let first : ℕ = get_or firsts i 0 in
    let row = table i lt in
    let window = total_window across.places first taps (across.weight (at + i)) f row.inside row.none_before row.none_after in
    total_same taps (pixel_term weights taps i sums n first c) (λ k. across.weight (at + i) (first + k) * f (first + k)) (λ k lk.
    let place : first * n + (k * n + c) ≡ (first + k) * n + c = omega arith in
    rw (row.weighs k lk, place, reads k lk) refl)
    ∙ sym window
