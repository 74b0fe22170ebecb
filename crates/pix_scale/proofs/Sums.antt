-- Laws of sums of so many terms.
use Rattle.std.proofs.Common.{◌≡◌, ℕ, zero, suc, ◌+◌, ◌*◌, ◌<◌, ◌≤◌, inl, inr, List, [], ◌∷◌, length, map, take, drop, get_or, slice_index, ◌^◌, Fits, w32, arith, refl, ap, ◌∙◌, add-one}
use Rattle.std.proofs.lemmas.List.{take-map, drop-map, get_or-take, get_or-drop, length-take, length-drop}
use Rattle.std.proofs.lemmas.Nat.{mul-add-lt}
use Rattle.std.proofs.Math.Nat.{mul-le-mul_left, mul-le-mul_right}
use Rattle.std.proofs.lemmas.Bool.{cases_lt}
use Rattle.pix_scale.specs.Axis.{total}
use Rattle.pix_scale.specs.Table.{row_term, pixel_term, tap}

pub total_next : (n : ℕ) (f : ℕ → ℕ) → total (n + 1) f ≡ total n f + f n
total_next n f = rw add-one refl

-- a sum of greater terms is greater
pub total_le : (n : ℕ) (f g : ℕ → ℕ) → ((k : ℕ) → k < n → f k ≤ g k) → total n f ≤ total n g
total_le zero f g h = omega arith
total_le (suc n) f g h = omega (arith, h n (omega arith), total_le n f g (λ k l. h k (omega arith)))

-- more terms make no sum less
pub total_longer : (n m : ℕ) (f : ℕ → ℕ) → n ≤ m → total n f ≤ total m f
total_longer n zero f h = let e : n ≡ 0 = omega arith in rw e (omega arith)
total_longer n (suc m) f h = elim (cases_lt n (suc m)) [
  | inl l ↦ omega (arith, total_longer n m f (omega arith))
  | inr l ↦ let e : n ≡ suc m = omega arith in rw e (omega arith)
]

-- a common factor of all terms
pub total_times : (n c : ℕ) (f : ℕ → ℕ) → total n (λ k. f k * c) ≡ total n f * c
total_times zero c f = omega arith
total_times (suc n) c f = omega (arith, total_times n c f)

-- what the first i terms w k * s k and the bound of the next add up to
pub total_fits : (n i max : ℕ) (w s : ℕ → ℕ) → i < n → ((k : ℕ) → s k ≤ max) → total i (λ k. w k * s k) + w i * max ≤ total n w * max
total_fits n i max w s lt h =
    let below = total_le i (λ k. w k * s k) (λ k. w k * max) (λ k l. mul-le-mul_left (w k) (h k)) in
    let so_far = total_times i max w in
    let longer : total (suc i) w ≤ total n w = total_longer (suc i) n w (omega arith) in
    let more = mul-le-mul_right max longer in
    omega (arith, below, so_far, more)

-- each sum has the terms of the first i rows
pub record Summed (sums weights : List ℕ) (numbers : ℕ → ℕ) (stride i : ℕ) : Type 0 where
  pub at : (x : ℕ) → x < length sums → get_or sums x 0 ≡ total i (row_term weights numbers stride x)

-- a sum and the bound of the next row's term are within that of all rows
pub room : (sums weights : List ℕ) (numbers : ℕ → ℕ) (stride i max : ℕ) → i < length weights → ((k : ℕ) → numbers k ≤ max)
    → Summed sums weights numbers stride i → (x : ℕ) → x < length sums
    → get_or sums x 0 + get_or weights i 0 * max ≤ total (length weights) (slice_index weights) * max
room sums weights numbers stride i max lt small s x in_ =
    let e = s.at x in_ in
    let f = total_fits (length weights) i max (slice_index weights) (λ k. numbers (k * stride + x)) lt (λ k. small (k * stride + x)) in
    omega (arith, e, f)

pub summed_more : (old new weights : List ℕ) (numbers part : ℕ → ℕ) (stride i : ℕ) → length new ≡ length old
    → Summed old weights numbers stride i
    → ((x : ℕ) → x < length old → part x ≡ numbers (i * stride + x))
    → ((x : ℕ) → x < length old → get_or new x 0 ≡ get_or old x 0 + get_or weights i 0 * part x)
    → Summed new weights numbers stride (i + 1)
summed_more old new weights numbers part stride i long s row more = record {
  at = λ x lt.
      let in_ : x < length old = omega arith in
      rw (total_next, more x in_, row x in_, s.at x in_) refl;
}

-- no number of a list is above a bound that all values keep
pub numbers_fit : {C : Type 0} (n : C → ℕ) (max : ℕ) → ((x : C) → n x ≤ max) → (xs : List C) (k : ℕ) → get_or (map n xs) k 0 ≤ max
numbers_fit n max h [] k = omega arith
numbers_fit n max h (x ∷ xs) zero = h x
numbers_fit n max h (x ∷ xs) (suc k) = numbers_fit n max h xs k

-- a number of a part of a list is a number of the list
pub number_of_part : {C : Type 0} (n : C → ℕ) (xs : List C) (start m x : ℕ) → x < m
    → get_or (map n (take m (drop start xs))) x 0 ≡ get_or (map n xs) (start + x) 0
number_of_part n xs start m x lt = rw (← take-map n m (drop start xs), ← drop-map n start xs, get_or-take, get_or-drop) refl

-- a sum of terms is at most the weights together times what each number is at most
pub sum_small : (weights : List ℕ) (numbers : ℕ → ℕ) (stride x n max : ℕ) → ((k : ℕ) → numbers k ≤ max)
    → total n (row_term weights numbers stride x) ≤ total n (slice_index weights) * max
sum_small weights numbers stride x n max small =
    let w : ℕ → ℕ = slice_index weights in
    let below : total n (row_term weights numbers stride x) ≤ total n (λ k. w k * max) =
    total_le n (row_term weights numbers stride x) (λ k. w k * max) (λ k l. mul-le-mul_left (w k) (small (k * stride + x))) in
    let all = total_times n max w in
    omega (arith, below, all)

-- numbers of 32 bits are at most 2^32
pub below_32 : (xs : List ℕ) → ((k : ℕ) → Fits w32 (get_or xs k 0)) → (k : ℕ) → get_or xs k 0 ≤ 2 ^ 32
below_32 xs h k = let f = h k in omega (arith, f.fits)

pub at_of_part : (xs : List ℕ) (start m x : ℕ) → x < m → get_or (take m (drop start xs)) x 0 ≡ get_or xs (start + x) 0
at_of_part xs start m x lt = rw (get_or-take, get_or-drop) refl

-- sums of the same terms are the same
pub total_same : (n : ℕ) (f g : ℕ → ℕ) → ((k : ℕ) → k < n → f k ≡ g k) → total n f ≡ total n g
total_same zero f g h = refl
total_same (suc n) f g h = omega (arith, h n (omega arith), total_same n f g (λ k l. h k (omega arith)))

-- a row of a table as a list of its own
pub length_part : {C : Type 0} (xs : List C) (start m : ℕ) → start + m ≤ length xs → length (take m (drop start xs)) ≡ m
length_part xs start m le = omega (arith, length-take m (drop start xs), length-drop start xs)

pub tap_total : (weights : List ℕ) (taps i m : ℕ) → m ≡ taps → i * taps + taps ≤ length weights
    → total (length (take m (drop (i * taps) weights))) (slice_index (take m (drop (i * taps) weights))) ≡ total taps (tap weights taps i)
tap_total weights taps i m e le =
    let long : length (take m (drop (i * taps) weights)) ≡ taps = length_part weights (i * taps) m (omega arith) ∙ e in
    let w : List ℕ = take m (drop (i * taps) weights) in
    ap (λ n. total n (slice_index w)) long
    ∙ total_same taps (slice_index w) (tap weights taps i) (λ k lt. at_of_part weights (i * taps) m k (omega arith))

-- the sum of a pixel by a row of a table, and pixels from one on, as lists of their own
pub part_total : (weights sums : List ℕ) (taps n i first c m p : ℕ) → m ≡ taps → p ≡ taps * n → c < n
    → i * taps + taps ≤ length weights
    → total (length (take m (drop (i * taps) weights))) (row_term (take m (drop (i * taps) weights)) (slice_index (take p (drop (first * n) sums))) n c)
    ≡ total taps (pixel_term weights taps i sums n first c)
part_total weights sums taps n i first c m p e f lt le =
    let w : List ℕ = take m (drop (i * taps) weights) in
    let s : List ℕ = take p (drop (first * n) sums) in
    let long : length w ≡ taps = length_part weights (i * taps) m (omega arith) ∙ e in
    ap (λ k. total k (row_term w (slice_index s) n c)) long
    ∙ total_same taps (row_term w (slice_index s) n c) (pixel_term weights taps i sums n first c) (λ k lk.
    let a : get_or w k 0 ≡ get_or weights (i * taps + k) 0 = at_of_part weights (i * taps) m k (omega arith) in
    let in_ : k * n + c < taps * n = omega (arith, mul-add-lt k n c taps lk lt) in
    let b : get_or s (k * n + c) 0 ≡ get_or sums (first * n + (k * n + c)) 0 = at_of_part sums (first * n) p (k * n + c) (omega arith) in
    rw (a, b) refl)

-- the sum of a pixel is at most its weights together times what each sum is at most
pub pixel_small : (weights : List ℕ) (taps i : ℕ) (sums : List ℕ) (n first c top : ℕ) → ((x : ℕ) → x < length sums → get_or sums x 0 ≤ top)
    → (first + taps) * n ≤ length sums → c < n
    → total taps (pixel_term weights taps i sums n first c) ≤ total taps (tap weights taps i) * top
pixel_small weights taps i sums n first c top small le lt =
    let below : total taps (pixel_term weights taps i sums n first c) ≤ total taps (λ k. tap weights taps i k * top) =
    total_le taps (pixel_term weights taps i sums n first c) (λ k. tap weights taps i k * top) (λ k lk.
    let in_ = mul-add-lt k n c taps lk lt in
    let e : (first + taps) * n ≡ first * n + taps * n = omega arith in
    mul-le-mul_left (tap weights taps i k) (small (first * n + (k * n + c)) (omega (arith, in_, e, le)))) in
    let all = total_times taps top (tap weights taps i) in
    omega (arith, below, all)

-- a sum with its next term is at most the sum of all terms
pub room_of_all : (sums weights : List ℕ) (numbers : ℕ → ℕ) (stride i n : ℕ) → i < n → Summed sums weights numbers stride i → (x : ℕ) → x < length sums
    → get_or sums x 0 + get_or weights i 0 * numbers (i * stride + x) ≤ total n (row_term weights numbers stride x)
room_of_all sums weights numbers stride i n lt s x in_ =
    let e = s.at x in_ in
    let longer : total (suc i) (row_term weights numbers stride x) ≤ total n (row_term weights numbers stride x) =
    total_longer (suc i) n (row_term weights numbers stride x) (omega arith) in
    omega (arith, e, longer)

-- the same where the number of channels has another name
pub part_by : (weights sums : List ℕ) (taps n k i first c m p : ℕ) → k ≡ n → m ≡ taps → p ≡ taps * k → c < n
    → i * taps + taps ≤ length weights
    → total (length (take m (drop (i * taps) weights))) (row_term (take m (drop (i * taps) weights)) (slice_index (take p (drop (first * k) sums))) n c)
    ≡ total taps (pixel_term weights taps i sums n first c)
part_by weights sums taps n k i first c m p e same size lt le =
    let w : List ℕ = take m (drop (i * taps) weights) in
    ap (λ z. total (length w) (row_term w (slice_index (take p (drop (first * z) sums))) n c)) e
    ∙ part_total weights sums taps n i first c m p same (size ∙ ap (λ z. taps * z) e) lt le
