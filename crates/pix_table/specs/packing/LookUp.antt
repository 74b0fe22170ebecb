-- From indices back to colors.
use Rattle.std.specs.Prelude.{◌≡◌, ℕ, ◌<◌, List, [], ◌∷◌, Bool, true, ◌&&◌, nat_lt, nat_eq, count_by, length, slice_index, slice_get}

-- whether each index is below a number of entries
abbrev pub all_below : ℕ → List ℕ → Bool
all_below count [] = true
all_below count (i ∷ indices) = nat_lt i count && all_below count indices

-- the color of each place is the entry of the index at that place
pub record AreLookedUp {C : Type 0} (entries : List C) (indices : List ℕ) (colors : List C) : Type 0 where
  pub many : length colors ≡ length indices
  pub each : (k : ℕ) → k < length indices → slice_get colors k ≡ slice_get entries (slice_index indices k)

-- how often each number below a count is among the indices
pub record AreCounted (count : ℕ) (indices counts : List ℕ) : Type 0 where
  pub many : length counts ≡ count
  pub each : (k : ℕ) → k < count → slice_index counts k ≡ count_by (λ i. nat_eq i k) indices
