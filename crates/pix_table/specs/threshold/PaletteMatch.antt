-- The match of a color among the entries of a table. A color is the list of its numbers: red, green
-- and blue.
use Rattle.std.specs.Prelude.{◌≡◌, ◌≢◌, ℕ, ◌+◌, ◌-◌, ◌<◌, Bool, true, false, not, ◌&&◌, nat_le, List, [], ◌∷◌, length, slice_index, slice_index_or}
use Rattle.pix_table.specs.quantization.Quantization.{same_color}

-- how far apart two numbers are
abbrev pub apart : ℕ → ℕ → ℕ
apart x y = (x - y) + (y - x)

-- the absolute differences of two colors in red, green and blue
abbrev pub color_difference : List ℕ → List ℕ → List ℕ
color_difference p q =
    apart (slice_index p 0) (slice_index q 0) ∷ apart (slice_index p 1) (slice_index q 1) ∷ apart (slice_index p 2) (slice_index q 2) ∷ []

-- the difference of a color to the entry of an index
abbrev pub difference_to : List (List ℕ) → List ℕ → ℕ → List ℕ
difference_to entries color i = color_difference (slice_index_or entries i []) color

-- whether a difference is no greater than a threshold in red, green and blue
abbrev pub is_within : List ℕ → List ℕ → Bool
is_within p threshold =
    nat_le (slice_index p 0) (slice_index threshold 0) && nat_le (slice_index p 1) (slice_index threshold 1)
    && nat_le (slice_index p 2) (slice_index threshold 2)

-- whether a difference is no greater than another in every channel, and not equal to it
abbrev pub is_closer : List ℕ → List ℕ → Bool
is_closer p q = is_within p q && not (same_color p q)

-- among the differences `d` of a number of entries, that of j is the first after that of i that is
-- closer
pub record IsNext (d : ℕ → List ℕ) (count i j : ℕ) : Type 0 where
  pub later : i < j
  pub stands : j < count
  pub closer : is_closer (d j) (d i) ≡ true
  pub first : (k : ℕ) → i < k → k < j → is_closer (d k) (d i) ≡ false

-- the entry i is a candidate, the indices in the list are the candidates after it, and m is the
-- last of them: each is the next of the one before, and no entry after the last is closer
abbrev pub AreCandidates : (ℕ → List ℕ) → ℕ → ℕ → List ℕ → ℕ → Type 0
AreCandidates d count i [] m = (m ≡ i) × ((k : ℕ) → i < k → k < count → is_closer (d k) (d i) ≡ false)
AreCandidates d count i (j ∷ candidates) m = IsNext d count i j × AreCandidates d count j candidates m

-- the match of a color: the last of its candidates, of which index 0 is the first
pub record IsMatch (entries : List (List ℕ)) (color : List ℕ) (m : ℕ) : Type 0 where
  pub some : 0 < length entries
  pub candidates : List ℕ
  pub last : AreCandidates (difference_to entries color) (length entries) 0 candidates m

-- an entry that is minimal for a color, channel by channel: none is closer, none before it differs
-- as much in every channel, and it differs by no more than entry 0 in any. One that differs by more
-- in one channel may yet be nearer by a sum.
pub record IsMinimal (entries : List (List ℕ)) (color : List ℕ) (m : ℕ) : Type 0 where
  pub none_closer : (k : ℕ) → k < length entries → is_closer (difference_to entries color k) (difference_to entries color m) ≡ false
  pub first : (k : ℕ) → k < m → difference_to entries color k ≢ difference_to entries color m
  pub no_worse : is_within (difference_to entries color m) (difference_to entries color 0) ≡ true

-- the entry i is the first that is the color: the first that differs in no channel
pub record IsFirstOf (entries : List (List ℕ)) (color : List ℕ) (i : ℕ) : Type 0 where
  pub stands : i < length entries
  pub same : difference_to entries color i ≡ 0 ∷ 0 ∷ 0 ∷ []
  pub first : (k : ℕ) → k < i → difference_to entries color k ≢ 0 ∷ 0 ∷ 0 ∷ []
