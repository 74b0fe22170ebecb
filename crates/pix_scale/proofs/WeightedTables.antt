-- Tables that a caller gives: their parts, their sums, and what holds where they are whole.
use Rattle.std.specs.Prelude.{◌≡◌, ◌≢◌, ℕ, ℤ, zero, suc, pos, ◌-ℤ◌, ◌+◌, ◌*◌, ◌<◌, ◌≤◌, List, length, slice_index_or, Bool, true, ◌&&◌, refl}
use Rattle.std.proofs.Common.{inl, inr, get_or, set, arith, ap, ◌∙◌, get_or-set_other, get_or-set_same}
use borrow.Author.Differences.{up, down}
use Rattle.std.proofs.lemmas.Int.{ints}
use Rattle.std.proofs.lemmas.Nat.{row_fits}
use Rattle.std.proofs.lemmas.Bool.{cases_lt, and_parts, eqb-true, ltb-true, leb-true}
use Rattle.pix_scale.specs.Axis.{total}
use Rattle.pix_scale.specs.Table.{tap}
use Rattle.pix_scale.specs.Signed.{Taps}
use Rattle.pix_scale.specs.SignedTable.{IsSound, taps_at}
use Rattle.pix_scale.specs.Weighted.{given, added, taken, is_whole, is_each, is_table}
use Rattle.pix_scale.proofs.Sums.{total_next, total_same}
use Rattle.pix_scale.proofs.SignedRows.{SameTaps}

-- the numbers below k are what a weight adds, by f
pub record Parted (f : ℤ → ℕ) (weights : List ℤ) (part : List ℕ) (k : ℕ) : Type 0 where
  pub at : (j : ℕ) → j < k → get_or part j 0 ≡ f (slice_index_or weights j (pos 0))

pub parted_none : (f : ℤ → ℕ) (weights : List ℤ) (part : List ℕ) → Parted f weights part 0
parted_none f weights part = record { at = λ j lt. absurd (omega arith) }

pub parted_more : (f : ℤ → ℕ) (weights : List ℤ) (part : List ℕ) (k v : ℕ) → k < length part → Parted f weights part k → v ≡ f (slice_index_or weights k (pos 0))
    → Parted f weights (set part k v) (k + 1)
parted_more f weights part k v in_ so is = record {
  at = λ j lt. elim (cases_lt j k) [
    | inl l ↦
        let ne : j ≢ k = omega arith in
        let same : get_or (set part k v) j 0 ≡ get_or part j 0 = rw get_or-set_other refl in
        same ∙ so.at j l
    | inr l ↦
        let e : j ≡ k = omega arith in
        let same : get_or (set part k v) k 0 ≡ v = rw get_or-set_same refl in
        rw e (same ∙ is)
  ];
}

-- what the first k weights of a row add, by f, and that it is small
pub record Added (f : ℤ → ℕ) (weights : List ℤ) (start sum k : ℕ) : Type 0 where
  pub is : sum ≡ total k (λ j. f (slice_index_or weights (start + j) (pos 0)))
  pub small : sum ≤ k * 2147483648

pub added_none : (f : ℤ → ℕ) (weights : List ℤ) (start : ℕ) → Added f weights start 0 0
added_none f weights start = record { is = refl; small = omega arith }

pub added_more : (f : ℤ → ℕ) (weights : List ℤ) (start sum k v : ℕ) → Added f weights start sum k → v ≡ f (slice_index_or weights (start + k) (pos 0)) → v ≤ 2147483648
    → Added f weights start (sum + v) (k + 1)
added_more f weights start sum k v so is few = record {
  is = omega (arith, so.is, is, total_next k (λ j. f (slice_index_or weights (start + j) (pos 0))));
  small = omega (arith, so.small, few);
}

-- a test that holds for each number below n holds for one of them
pub each_at : (n : ℕ) (f : ℕ → Bool) (i : ℕ) → is_each n f ≡ true → i < n → f i ≡ true
each_at zero f i all lt = absurd (omega arith)
each_at (suc n) f i all lt =
    let parts = and_parts (is_each n f) (f n) all in
    elim (cases_lt i n) [
      | inl l ↦ each_at n f i parts.0 l
      | inr l ↦ let e : i ≡ n = omega arith in rw e parts.1
    ]

-- what a table is that is not refused
pub record Whole (places size : ℕ) (firsts : List ℕ) (taps : ℕ) (weights : List ℤ) : Type 0 where
  pub many : length firsts ≡ size
  pub short : taps ≤ places
  pub long : length weights ≡ size * taps
  pub inside : (i : ℕ) → i < size → get_or firsts i 0 + taps ≤ places
  pub adds_up : (i : ℕ) → i < size → added (given firsts taps weights i) ≡ 16384 + taken (given firsts taps weights i)
  pub small : (i : ℕ) → i < size → taken (given firsts taps weights i) < 8192

pub whole : (places size : ℕ) (firsts : List ℕ) (taps : ℕ) (weights : List ℤ) → is_table places size firsts taps weights ≡ true → Whole places size firsts taps weights
whole places size firsts taps weights is =
    let row : ℕ → Taps = given firsts taps weights in
    let first = and_parts _ _ is in
    let second = and_parts _ _ first.0 in
    let third = and_parts _ _ second.1 in
    record {
      many = eqb-true (length firsts) size second.0;
      short = leb-true taps places third.0;
      long = eqb-true (length weights) (size * taps) third.1;
      inside = λ i lt. let test = and_parts _ _ (each_at size (λ i. is_whole places (row i)) i first.1 lt) in leb-true (get_or firsts i 0 + taps) places test.0;
      adds_up = λ i lt.
          let test = and_parts _ _ (each_at size (λ i. is_whole places (row i)) i first.1 lt) in
          let sums = and_parts _ _ test.1 in
          eqb-true (added (row i)) (16384 + taken (row i)) sums.1;
      small = λ i lt.
          let test = and_parts _ _ (each_at size (λ i. is_whole places (row i)) i first.1 lt) in
          let sums = and_parts _ _ test.1 in
          ltb-true (taken (row i)) 8192 sums.0;
    }

-- a row of the table lies in it
row_in : (i k taps size : ℕ) → i < size → k < taps → i * taps + k < size * taps
row_in i k taps size li lk = omega (arith, row_fits i taps size taps li (omega arith), lk)

-- a row of what weights add, by f, is what that row adds
part_total : (f : ℤ → ℕ) (weights : List ℤ) (part : List ℕ) (taps size i : ℕ) → length weights ≡ size * taps → ((k : ℕ) → k < length weights → get_or part k 0 ≡ f (slice_index_or weights k (pos 0))) → i < size
    → total taps (tap part taps i) ≡ total taps (λ k. f (slice_index_or weights (i * taps + k) (pos 0)))
part_total f weights part taps size i long is lt =
    total_same taps (tap part taps i) (λ k. f (slice_index_or weights (i * taps + k) (pos 0)))
    (λ k lk. is (i * taps + k) (omega (arith, long, row_in i k taps size lt lk)))

-- the parts of the weights of a whole table are a sound table
pub sound_parts : (places size : ℕ) (firsts : List ℕ) (taps : ℕ) (weights : List ℤ) (plus minus : List ℕ) → Whole places size firsts taps weights
    → length plus ≡ length weights → length minus ≡ length weights
    → ((k : ℕ) → k < length weights → get_or plus k 0 ≡ up (slice_index_or weights k (pos 0)))
    → ((k : ℕ) → k < length weights → get_or minus k 0 ≡ down (slice_index_or weights k (pos 0)))
    → IsSound places firsts plus minus taps
sound_parts places size firsts taps weights plus minus w a b adds takes =
    let e = ap (λ n. n * taps) w.many in
    record {
      long_plus = omega (arith, a, w.long, e);
      long_minus = omega (arith, b, w.long, e);
      inside = λ i lt. w.inside i (omega (arith, w.many, lt));
      adds_up = λ i lt.
          let l : i < size = omega (arith, w.many, lt) in
          omega (arith, w.adds_up i l, part_total up weights plus taps size i w.long adds l, part_total down weights minus taps size i w.long takes l);
      small = λ i lt.
          let l : i < size = omega (arith, w.many, lt) in
          omega (arith, w.small i l, part_total down weights minus taps size i w.long takes l);
    }

-- an integer is what it adds, less what it takes away
both_parts : (z : ℤ) → pos (up z) -ℤ pos (down z) ≡ z
both_parts z = omega (arith, ints)

-- the parts are the weights of the table
pub same_parts : (places size : ℕ) (firsts : List ℕ) (taps : ℕ) (weights : List ℤ) (plus minus : List ℕ) (i : ℕ) → Whole places size firsts taps weights
    → ((k : ℕ) → k < length weights → get_or plus k 0 ≡ up (slice_index_or weights k (pos 0)))
    → ((k : ℕ) → k < length weights → get_or minus k 0 ≡ down (slice_index_or weights k (pos 0)))
    → i < size → SameTaps (taps_at firsts plus minus taps i) (given firsts taps weights i)
same_parts places size firsts taps weights plus minus i w adds takes lt = record {
  first = refl;
  count = refl;
  weight = λ k lk.
      let there = row_in i k taps size lt lk in
      let p = adds (i * taps + k) (omega (arith, w.long, there)) in
      let n = takes (i * taps + k) (omega (arith, w.long, there)) in
      rw (p, n) (both_parts (slice_index_or weights (i * taps + k) (pos 0)));
}
