-- A part of a list that was written, and what stands beside it.
use Rattle.std.proofs.Common.{◌≡◌, ℕ, ◌≤◌, ◌<◌, ◌+◌, ◌-◌, ◌*◌, List, length, take, drop, get_or, slice_range, sym, ap, ◌∙◌, refl, arith, inl, inr}
use Rattle.std.proofs.lemmas.Bool.{cases_lt}
use Rattle.std.proofs.lemmas.List.{drop-take, take-take, drop-drop, get_or-take, get_or-drop}
use Rattle.std.proofs.lemmas.Slice.{between_is, take-put_mid_below, between-put_mid, drop-put_mid}
use Rattle.std.proofs.Math.Nat.{mul-le-mul_right}
use borrow.Rule.Slice.PartMut.{put_mid}
use Rattle.pix_bytes.specs.BitmapFormats.{samples, padded}
use Rattle.pix_bytes.specs.Rows.{IsEach}

-- a range by what is dropped first
range_is : (xs : List ℕ) (start wide : ℕ) → slice_range xs start (start + wide) ≡ take wide (drop start xs)
range_is xs start wide = between_is xs start (start + wide) ∙ drop-take start wide xs

-- a range below what was written stands as it did
pub range_below : (xs ys : List ℕ) (start wide at k : ℕ) → start + wide ≤ at → at ≤ length xs → slice_range (put_mid at k xs ys) start (start + wide) ≡ slice_range xs start (start + wide)
range_below xs ys start wide at k below within =
    between_is (put_mid at k xs ys) start (start + wide)
    ∙ ap (drop start) (take-put_mid_below at k xs ys (start + wide) below within)
    ∙ sym (between_is xs start (start + wide))

-- and one above
pub range_above : (xs ys : List ℕ) (start wide at k : ℕ) → at + k ≤ start → at ≤ length xs → length ys ≡ k → slice_range (put_mid at k xs ys) start (start + wide) ≡ slice_range xs start (start + wide)
range_above xs ys start wide at k above within long =
    range_is (put_mid at k xs ys) start wide
    ∙ ap (take wide) (drop-put_mid at k xs ys start above within long)
    ∙ sym (range_is xs start wide)

-- what was written stands there
pub range_written : (xs ys : List ℕ) (at wide k : ℕ) → k ≡ wide → at ≤ length xs → length ys ≡ wide → slice_range (put_mid at k xs ys) at (at + wide) ≡ ys
range_written xs ys at wide k same within long =
    between-put_mid at k xs ys (at + wide) within (let span : at + wide - at ≡ wide = omega arith in long ∙ sym span)

-- a place beside it has what it had
pub place_beside : (xs ys : List ℕ) (place at k : ℕ) → at ≤ length xs → length ys ≡ k → (at ≤ place → at + k ≤ place) → get_or (put_mid at k xs ys) place 0 ≡ get_or xs place 0
place_beside xs ys place at k within long beside = elim (cases_lt place at) [
  | inl below ↦
      sym (get_or-take at (put_mid at k xs ys) place 0 below)
      ∙ ap (λ (l : List ℕ). get_or l place 0) (take-put_mid_below at k xs ys at (omega arith) within)
      ∙ get_or-take at xs place 0 below
  | inr past ↦
      let above : at + k ≤ place = beside past in
      let e : at + k + (place - (at + k)) ≡ place = omega (arith, above) in
      ap (λ (n : ℕ). get_or (put_mid at k xs ys) n 0) (sym e)
      ∙ sym (get_or-drop (at + k) (put_mid at k xs ys) (place - (at + k)) 0)
      ∙ ap (λ (l : List ℕ). get_or l (place - (at + k)) 0) (drop-put_mid at k xs ys (at + k) (omega arith) within long)
      ∙ get_or-drop (at + k) xs (place - (at + k)) 0
      ∙ ap (λ (n : ℕ). get_or xs n 0) e
]

-- no pixel is made yet
pub each_none : (max to_max from_count all size to_size : ℕ) (f : List ℕ → List ℕ) (src dst : List ℕ) → IsEach max to_max from_count all size to_size f src dst 0
each_none max to_max from_count all size to_size f src dst = λ index below. absurd (omega (arith, below))

-- the next pixel was made
pub each_more : (max to_max from_count all size to_size : ℕ) (f : List ℕ → List ℕ) (src dst part : List ℕ) (index start k : ℕ) → IsEach max to_max from_count all size to_size f src dst index
    → start ≡ index * to_size → k ≡ to_size → start ≤ length dst → length part ≡ to_size
    → samples to_max all part ≡ padded to_max all (f (samples max from_count (slice_range src (index * size) (index * size + size))))
    → IsEach max to_max from_count all size to_size f src (put_mid start k dst part) (index + 1)
each_more max to_max from_count all size to_size f src dst part index start k so_far at span within long new = λ i below. elim (cases_lt i index) [
  | inl before ↦
      let up : (i + 1) * to_size ≤ index * to_size = mul-le-mul_right to_size (let p : i + 1 ≤ index = omega (arith, before) in p) in
      let next : i * to_size + to_size ≡ (i + 1) * to_size = omega arith in
      ap (samples to_max all) (range_below dst part (i * to_size) to_size start k (omega (arith, up, next, at)) within) ∙ so_far i before
  | inr past ↦
      let here : i ≡ index = omega (arith, below, past) in
      ap (λ (n : ℕ). samples to_max all (slice_range (put_mid start k dst part) (n * to_size) (n * to_size + to_size))) here
      ∙ ap (λ (n : ℕ). samples to_max all (slice_range (put_mid start k dst part) n (n + to_size))) (sym at)
      ∙ ap (samples to_max all) (range_written dst part start to_size k span within long)
      ∙ new
      ∙ ap (λ (n : ℕ). padded to_max all (f (samples max from_count (slice_range src (n * size) (n * size + size))))) (sym here)
]

-- a range of a range
pub range_in : (xs : List ℕ) (at k start wide : ℕ) → start + wide ≤ k → slice_range (slice_range xs at (at + k)) start (start + wide) ≡ slice_range xs (at + start) (at + start + wide)
range_in xs at k start wide within =
    ap (λ (l : List ℕ). slice_range l start (start + wide)) (range_is xs at k)
    ∙ between_is (take k (drop at xs)) start (start + wide)
    ∙ ap (drop start) (take-take (start + wide) k (drop at xs) within)
    ∙ sym (between_is (drop at xs) start (start + wide))
    ∙ range_is (drop at xs) start wide
    ∙ ap (take wide) (drop-drop start at xs)
    ∙ sym (range_is xs (at + start) wide)

-- an element of a range
pub range_at : (xs : List ℕ) (start wide k : ℕ) → k < wide → get_or (slice_range xs start (start + wide)) k 0 ≡ get_or xs (start + k) 0
range_at xs start wide k lt =
    ap (λ (l : List ℕ). get_or l k 0) (range_is xs start wide)
    ∙ get_or-take wide (drop start xs) k 0 lt
    ∙ get_or-drop start xs k 0

-- the next pixels were made, so many at once
pub each_part : (max to_max from_count all size to_size : ℕ) (f : List ℕ → List ℕ) (src dst part : List ℕ) (first count from start k : ℕ)
    → IsEach max to_max from_count all size to_size f src dst first
    → from ≡ first * size → start ≡ first * to_size → k ≡ count * to_size → start ≤ length dst → length part ≡ k
    → IsEach max to_max from_count all size to_size f (slice_range src from (from + count * size)) part count
    → IsEach max to_max from_count all size to_size f src (put_mid start k dst part) (first + count)
each_part max to_max from_count all size to_size f src dst part first count from start k so_far origin at span within long new = λ i below. elim (cases_lt i first) [
  | inl before ↦
      let up : (i + 1) * to_size ≤ first * to_size = mul-le-mul_right to_size (let p : i + 1 ≤ first = omega (arith, before) in p) in
      let next : i * to_size + to_size ≡ (i + 1) * to_size = omega arith in
      ap (samples to_max all) (range_below dst part (i * to_size) to_size start k (omega (arith, up, next, at)) within) ∙ so_far i before
  | inr past ↦
      let j : ℕ = i - first in
      let here : i ≡ first + j = omega (arith, past) in
      let lt : j < count = omega (arith, below, here) in
      let room : j * to_size + to_size ≤ k =
      let p : (j + 1) * to_size ≤ count * to_size = mul-le-mul_right to_size (let p : j + 1 ≤ count = omega (arith, lt) in p) in
      let next : j * to_size + to_size ≡ (j + 1) * to_size = omega arith in
      omega (arith, p, next, span) in
      let held : j * size + size ≤ count * size =
      let p : (j + 1) * size ≤ count * size = mul-le-mul_right size (let p : j + 1 ≤ count = omega (arith, lt) in p) in
      let next : j * size + size ≡ (j + 1) * size = omega arith in
      omega (arith, p, next) in
      let place : i * to_size ≡ start + j * to_size = ap (λ (n : ℕ). n * to_size) here ∙ (let e : (first + j) * to_size ≡ first * to_size + j * to_size = omega arith in e) ∙ ap (λ (n : ℕ). n + j * to_size) (sym at) in
      let origin_of : i * size ≡ from + j * size = ap (λ (n : ℕ). n * size) here ∙ (let e : (first + j) * size ≡ first * size + j * size = omega arith in e) ∙ ap (λ (n : ℕ). n + j * size) (sym origin) in
      ap (λ (n : ℕ). samples to_max all (slice_range (put_mid start k dst part) n (n + to_size))) place
      ∙ ap (samples to_max all) (sym (range_in (put_mid start k dst part) start k (j * to_size) to_size room))
      ∙ ap (λ (l : List ℕ). samples to_max all (slice_range l (j * to_size) (j * to_size + to_size))) (range_written dst part start k k refl within long)
      ∙ new j lt
      ∙ ap (λ (l : List ℕ). padded to_max all (f (samples max from_count l))) (range_in src from (count * size) (j * size) size held)
      ∙ ap (λ (n : ℕ). padded to_max all (f (samples max from_count (slice_range src n (n + size))))) (sym origin_of)
]
