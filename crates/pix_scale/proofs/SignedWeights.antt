-- Rows of weights that may be negative.
use Rattle.std.specs.Prelude.{◌≡◌, ◌≢◌, ℕ, pos, ◌-ℤ◌, ◌+◌, ◌-◌, ◌*◌, ◌/◌, ◌<◌, ◌≤◌, List, slice_index, Bool, true, false, not, ◌&&◌, nat_eq, nat_lt, if◌then◌else◌}
use Rattle.std.proofs.Common.{get_or, arith, ap, sym, ◌∙◌}
use Rattle.std.proofs.Math.Nat.{mul-add-div_right}
use Rattle.std.proofs.lemmas.Bool.{and_parts, eq-eqb, ne_eqb, ltb-true}
use Rattle.pix_scale.specs.Axis.{total, rounded_part}
use Rattle.pix_scale.specs.Table.{IsSide}
use Rattle.pix_scale.specs.Signed.{Taps, adds, takes, part_of, taps_of_filter, first_tap, first_near, whole_of, is_used, taps_by}
use Rattle.pix_scale.specs.SignedTable.{near_weight, IsFilterRow}
use Rattle.pix_scale.specs.declared.filter.SignedFilter.{SignedFilter}
use Rattle.pix_scale.specs.declared.filter.Kernel.TheVariants.{Point}
use Rattle.pix_scale.proofs.Kernels.{total_steps, part_up_to, part_of_none, nearest_within}
use Rattle.pix_scale.proofs.Sums.{total_next, total_longer, total_same}
use Rattle.pix_scale.proofs.Windows.{total_part, total_nothing}

-- parts add up to that of the total
pub parts_total : (n w : ℕ) (f : ℕ → ℕ) → 0 < w → total n (part_of f w) ≡ rounded_part (total n f) (2 * w)
parts_total n w f some =
    let mark : ℕ → ℕ = λ k. rounded_part (total k f) (2 * w) in
    let steps = total_steps n mark (λ j. part_up_to (total j f) (total (j + 1) f) (2 * w) (total_longer j (j + 1) f (omega arith))) in
    let none : rounded_part 0 (2 * w) ≡ 0 = part_of_none (2 * w) (omega arith) in
    omega (arith, steps.1, none)

-- a whole more of what adds than of what takes away
pub rounded_whole : (t w : ℕ) → 0 < w → rounded_part (t + w) (2 * w) ≡ 16384 + rounded_part t (2 * w)
rounded_whole t w some =
    let d : ℕ = 2 * (2 * w) in
    let two : 0 < d = omega arith in
    let e : 2 * ((t + w) * 32768) + 2 * w ≡ 16384 * d + (2 * (t * 32768) + 2 * w) = omega arith in
    ap (λ z. z / d) e ∙ mul-add-div_right two 16384 (2 * (t * 32768) + 2 * w)

-- the weights by a filter, and those where the nearest place alone counts
abbrev pub used_taps : SignedFilter → (places n m i : ℕ) → Taps
used_taps filter places n m i = record {
  first = first_tap filter places n m i;
  count = taps_of_filter filter places n m;
  weight = λ k. pos (part_of (adds filter n m i (first_tap filter places n m i)) (whole_of filter places n m i) k)
      -ℤ pos (part_of (takes filter n m i (first_tap filter places n m i)) (whole_of filter places n m i) k);
}

abbrev pub near_taps : SignedFilter → (places n m i : ℕ) → Taps
near_taps filter places n m i = record {
  first = first_near filter places n m i;
  count = taps_of_filter filter places n m;
  weight = λ k. pos (near_weight (first_near filter places n m i) ((2 * i + 1) * n / (2 * m)) k) -ℤ pos 0;
}

pub is_used_taps : (filter : SignedFilter) (places n m i : ℕ) → is_used filter places n m i ≡ true → taps_by filter places n m i ≡ used_taps filter places n m i
is_used_taps filter places n m i e = ap (λ (b : Bool). if b then used_taps filter places n m i else near_taps filter places n m i) e

pub is_near_taps : (filter : SignedFilter) (places n m i : ℕ) → is_used filter places n m i ≡ false → taps_by filter places n m i ≡ near_taps filter places n m i
is_near_taps filter places n m i e = ap (λ (b : Bool). if b then used_taps filter places n m i else near_taps filter places n m i) e

-- what a filter that is used says
pub record Used (taken whole : ℕ) : Type 0 where
  pub some : 0 < whole
  pub few : rounded_part taken (2 * whole) < 8192

pub used : (n m taken whole : ℕ) → (not (nat_eq n m) && (nat_lt 0 whole && nat_lt (rounded_part taken (2 * whole)) 8192)) ≡ true → Used taken whole
used n m taken whole e =
    let a = and_parts (not (nat_eq n m)) (nat_lt 0 whole && nat_lt (rounded_part taken (2 * whole)) 8192) e in
    let b = and_parts (nat_lt 0 whole) (nat_lt (rounded_part taken (2 * whole)) 8192) a.1 in
    record { some = ltb-true 0 whole b.0; few = ltb-true (rounded_part taken (2 * whole)) 8192 b.1 }

-- a row by a filter that is used
pub used_row : (filter : SignedFilter) (places n m i first count whole : ℕ) (plus minus : List ℕ)
    → is_used filter places n m i ≡ true → first ≡ first_tap filter places n m i → count ≡ taps_of_filter filter places n m → whole ≡ whole_of filter places n m i
    → first + count ≤ places → Used (total count (takes filter n m i first)) whole
    → whole ≡ total count (adds filter n m i first) - total count (takes filter n m i first)
    → ((k : ℕ) → k < count → get_or plus k 0 ≡ part_of (adds filter n m i first) whole k)
    → ((k : ℕ) → k < count → get_or minus k 0 ≡ part_of (takes filter n m i first) whole k)
    → IsFilterRow filter places n m i first count (slice_index plus) (slice_index minus)
used_row filter places n m i first count whole plus minus is e f w inside u same p q =
    let t = is_used_taps filter places n m i is in
    let some = u.some in
    let a : total count (slice_index plus) ≡ rounded_part (total count (adds filter n m i first)) (2 * whole) =
    total_same count (slice_index plus) (part_of (adds filter n m i first) whole) p ∙ parts_total count whole (adds filter n m i first) some in
    let b : total count (slice_index minus) ≡ rounded_part (total count (takes filter n m i first)) (2 * whole) =
    total_same count (slice_index minus) (part_of (takes filter n m i first) whole) q ∙ parts_total count whole (takes filter n m i first) some in
    let more : total count (adds filter n m i first) ≡ total count (takes filter n m i first) + whole = omega (arith, same, some) in
    let c = ap (λ z. rounded_part z (2 * whole)) more ∙ rounded_whole (total count (takes filter n m i first)) whole some in
    record {
      begins = e ∙ ap (λ (x : Taps). x.first) (sym t);
      many = f ∙ ap (λ (x : Taps). x.count) (sym t);
      weighs = λ k lt.
          let x = p k lt ∙ ap (λ z. part_of (adds filter n m i z) whole k) e ∙ ap (λ z. part_of (adds filter n m i (first_tap filter places n m i)) z k) w in
          let y = q k lt ∙ ap (λ z. part_of (takes filter n m i z) whole k) e ∙ ap (λ z. part_of (takes filter n m i (first_tap filter places n m i)) z k) w in
          ap (λ z. pos z -ℤ pos (get_or minus k 0)) x
          ∙ ap (λ z. pos (part_of (adds filter n m i (first_tap filter places n m i)) (whole_of filter places n m i) k) -ℤ pos z) y
          ∙ ap (λ (x : Taps). x.weight k) (sym t);
      inside = inside;
      adds_up = omega (arith, a, b, c);
      small = omega (arith, b, u.few);
    }

pub near_at : (first place k : ℕ) → first + k ≡ place → near_weight first place k ≡ 16384
near_at first place k e = let one : ℕ = 16384 in let none : ℕ = 0 in ap (λ (t : Bool). if t then one else none) (eq-eqb (first + k) place e)

pub near_not : (first place k : ℕ) → first + k ≢ place → near_weight first place k ≡ 0
near_not first place k ne = let one : ℕ = 16384 in let none : ℕ = 0 in ap (λ (t : Bool). if t then one else none) (ne_eqb (first + k) place ne)

pub near_total : (first place count : ℕ) → first ≤ place → place < first + count → total count (near_weight first place) ≡ 16384
near_total first place count lo hi =
    let c : ℕ = place - first in
    let one = near_at first place (c + 0) (omega arith) in
    total_part count c 1 (near_weight first place) (omega arith) (λ j l. near_not first place j (omega arith)) (λ j l k. near_not first place j (omega arith))
    ∙ omega (arith, one)

-- a row where the nearest place alone counts
pub near_row : (filter : SignedFilter) (places size n m i first count place : ℕ) (plus minus : List ℕ)
    → IsSide Point places size n m → i < size
    → is_used filter places n m i ≡ false → first ≡ first_near filter places n m i → count ≡ taps_of_filter filter places n m
    → place ≡ (2 * i + 1) * n / (2 * m)
    → ((k : ℕ) → k < count → get_or plus k 0 ≡ near_weight first place k)
    → ((k : ℕ) → k < count → get_or minus k 0 ≡ 0)
    → IsFilterRow filter places n m i first count (slice_index plus) (slice_index minus)
near_row filter places size n m i first count place plus minus side lt is e f here p q =
    let t = is_near_taps filter places n m i is in
    let within = nearest_within places size n m i side lt in
    let some : 0 < places = let s = side.some_n in let u = side.short in omega arith in
    let lo : first ≤ place = omega (arith, e, here) in
    let hi : place < first + count = omega (arith, e, f, here, within, some) in
    let a : total count (slice_index plus) ≡ 16384 = total_same count (slice_index plus) (near_weight first place) p ∙ near_total first place count lo hi in
    let b : total count (slice_index minus) ≡ 0 = total_nothing count (slice_index minus) q in
    record {
      begins = e ∙ ap (λ (x : Taps). x.first) (sym t);
      many = f ∙ ap (λ (x : Taps). x.count) (sym t);
      weighs = λ k l.
          let x = p k l ∙ ap (λ z. near_weight z place k) e ∙ ap (λ z. near_weight (first_near filter places n m i) z k) here in
          ap (λ z. pos z -ℤ pos (get_or minus k 0)) x
          ∙ ap (λ z. pos (near_weight (first_near filter places n m i) ((2 * i + 1) * n / (2 * m)) k) -ℤ pos z) (q k l)
          ∙ ap (λ (x : Taps). x.weight k) (sym t);
      inside = omega (arith, e, f);
      adds_up = omega (arith, a, b);
      small = omega (arith, b);
    }

-- the same row by other names of its weights
pub row_again : (filter : SignedFilter) (places n m i first count : ℕ) (f g p q : ℕ → ℕ) → ((k : ℕ) → k < count → p k ≡ f k) → ((k : ℕ) → k < count → q k ≡ g k)
    → IsFilterRow filter places n m i first count f g → IsFilterRow filter places n m i first count p q
row_again filter places n m i first count f g p q x y row =
    let a = total_same count p f x in
    let b = total_same count q g y in
    record {
      begins = row.begins;
      many = row.many;
      weighs = λ k lt. ap (λ z. pos z -ℤ pos (q k)) (x k lt) ∙ ap (λ z. pos (f k) -ℤ pos z) (y k lt) ∙ row.weighs k lt;
      inside = row.inside;
      adds_up = omega (arith, a, b, row.adds_up);
      small = omega (arith, b, row.small);
    }

-- a place more of what adds up
pub record Step (f : ℕ → ℕ) (w n k added v : ℕ) : Type 0 where
  pub more : added + v ≡ total (k + 1) f
  pub fits : added + v ≤ total n f
  pub small : rounded_part (added + v) (2 * w) ≤ rounded_part (total n f) (2 * w)
  pub part : rounded_part (added + v) (2 * w) - rounded_part added (2 * w) ≡ part_of f w k

pub step_of : (f : ℕ → ℕ) (w n k added v : ℕ) → k < n → added ≡ total k f → v ≡ f k → Step f w n k added v
step_of f w n k added v lt e h =
    let next : added + v ≡ total (k + 1) f = omega (arith, e, h, total_next k f) in
    let up = total_longer (k + 1) n f (omega arith) in
    let fits : added + v ≤ total n f = omega (arith, next, up) in
    record {
      more = next;
      fits = fits;
      small = part_up_to (added + v) (total n f) (2 * w) fits;
      part = ap (λ z. rounded_part z (2 * w) - rounded_part added (2 * w)) next ∙ ap (λ z. rounded_part (total (k + 1) f) (2 * w) - rounded_part z (2 * w)) e;
    }

-- whether a filter is used, by other names
pub used_is : (filter : SignedFilter) (places n m i first count taken whole : ℕ) → first ≡ first_tap filter places n m i → count ≡ taps_of_filter filter places n m
    → taken ≡ total count (takes filter n m i first) → whole ≡ total count (adds filter n m i first) - total count (takes filter n m i first)
    → (whole ≡ whole_of filter places n m i) × ((not (nat_eq n m) && (nat_lt 0 whole && nat_lt (rounded_part taken (2 * whole)) 8192)) ≡ is_used filter places n m i)
used_is filter places n m i first count taken whole e f g h =
    let t : ℕ → ℕ → ℕ = λ c s. total c (takes filter n m i s) in
    let a : ℕ → ℕ → ℕ = λ c s. total c (adds filter n m i s) in
    let x : t count first ≡ t (taps_of_filter filter places n m) (first_tap filter places n m i) =
    ap (λ c. t c first) f ∙ ap (λ s. t (taps_of_filter filter places n m) s) e in
    let y : a count first ≡ a (taps_of_filter filter places n m) (first_tap filter places n m i) =
    ap (λ c. a c first) f ∙ ap (λ s. a (taps_of_filter filter places n m) s) e in
    let w : whole ≡ whole_of filter places n m i =
    h ∙ ap (λ z. z - t count first) y ∙ ap (λ z. a (taps_of_filter filter places n m) (first_tap filter places n m i) - z) x in (
      w,
      ap (λ z. not (nat_eq n m) && (nat_lt 0 z && nat_lt (rounded_part taken (2 * z)) 8192)) w
          ∙ ap (λ z. not (nat_eq n m) && (nat_lt 0 (whole_of filter places n m i) && nat_lt (rounded_part z (2 * whole_of filter places n m i)) 8192)) (g ∙ x),
    )
