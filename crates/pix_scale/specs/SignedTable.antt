-- What functions that are not public work with: tables of weights that may be negative.
use Rattle.std.specs.Prelude.{◌≡◌, ℕ, ℤ, pos, ◌-ℤ◌, ◌+◌, ◌*◌, ◌^◌, ◌<◌, ◌≤◌, List, length, slice_index, nat_eq, if◌then◌else◌}
use Rattle.pix_scale.specs.Axis.{total}
use Rattle.pix_scale.specs.Table.{row_term, pixel_term, tap}
use Rattle.pix_scale.specs.Signed.{Taps, taps_by}
use Rattle.pix_scale.specs.declared.filter.SignedFilter.{SignedFilter}

-- what is left of weighted sums, each 2 ^ 31 too high, of channel c of pixels that follow each other
abbrev pub left : (plus minus : List ℕ) → List ℕ → ℕ → ℕ → ℤ
left plus minus sums n c =
    pos (total (length plus) (row_term plus (slice_index sums) n c)) -ℤ pos (total (length minus) (row_term minus (slice_index sums) n c) + 2 ^ 45)

-- the same by row i of a table
abbrev pub left_at : (plus minus : List ℕ) → (taps i : ℕ) → List ℕ → (n first c : ℕ) → ℤ
left_at plus minus taps i sums n first c =
    pos (total taps (pixel_term plus taps i sums n first c)) -ℤ pos (total taps (pixel_term minus taps i sums n first c) + 2 ^ 45)

-- the weights of row i of a table
abbrev pub taps_at : (firsts plus minus : List ℕ) → (taps i : ℕ) → Taps
taps_at firsts plus minus taps i = record { first = slice_index firsts i; count = taps; weight = λ k. pos (tap plus taps i k) -ℤ pos (tap minus taps i k) }

-- the weights of a row
abbrev pub taps_of : (first : ℕ) → (plus minus : List ℕ) → Taps
taps_of first plus minus = record { first = first; count = length plus; weight = λ k. pos (slice_index plus k) -ℤ pos (slice_index minus k) }

-- the weight of the k-th place from the first on, where one place alone counts
abbrev pub near_weight : (first place k : ℕ) → ℕ
near_weight first place k = if nat_eq (first + k) place then 16384 else 0

-- Each row of a table lies in a side, its weights add up to 2 ^ 14, and few are negative.
pub record IsSound (places : ℕ) (firsts plus minus : List ℕ) (taps : ℕ) : Type 0 where
  pub long_plus : length plus ≡ length firsts * taps
  pub long_minus : length minus ≡ length firsts * taps
  pub inside : (i : ℕ) → i < length firsts → slice_index firsts i + taps ≤ places
  pub adds_up : (i : ℕ) → i < length firsts → total taps (tap plus taps i) ≡ 16384 + total taps (tap minus taps i)
  pub small : (i : ℕ) → i < length firsts → total taps (tap minus taps i) < 8192

-- A row of weights is that of a filter for place i: it begins at the same place, has as many
-- weights and the same ones, lies in the side, and is sound.
pub record IsFilterRow (filter : SignedFilter) (places n m i first count : ℕ) (plus minus : ℕ → ℕ) : Type 0 where
  pub begins : first ≡ (taps_by filter places n m i).first
  pub many : count ≡ (taps_by filter places n m i).count
  pub weighs : (k : ℕ) → k < count → pos (plus k) -ℤ pos (minus k) ≡ (taps_by filter places n m i).weight k
  pub inside : first + count ≤ places
  pub adds_up : total count plus ≡ 16384 + total count minus
  pub small : total count minus < 8192
