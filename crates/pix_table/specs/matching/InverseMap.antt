-- Cells of colors, each with a short list of entries. No clause of a public call cites this file.
use Rattle.std.specs.Prelude.{◌⊎◌, ◌≡◌, ℕ, ◌+◌, ◌-◌, ◌*◌, ◌/◌, ◌%◌, ◌<◌, ◌≤◌, List, [], ◌∷◌, length, slice_index, slice_index_or, nat_lt, if◌then◌else◌}
use Rattle.pix_table.specs.matching.Nearest.{distance, distance_to}
use Rattle.pix_table.specs.declared.matching.inverse_map.ShortList.{ShortList}
use Rattle.pix_table.specs.declared.matching.inverse_map.InverseMap.{InverseMap}

-- a color from which a cell reaches a number of values further in each channel
pub record IsLow (reach : ℕ) (low : List ℕ) : Type 0 where
  pub red : slice_index low 0 + reach ≤ 255
  pub green : slice_index low 1 + reach ≤ 255
  pub blue : slice_index low 2 + reach ≤ 255

-- a number from `low` on, and not further than the reach
abbrev pub IsWithin : (reach low x : ℕ) → Type 0
IsWithin reach low x = (low ≤ x) × (x ≤ low + reach)

-- a color is in a cell
pub record IsInside (reach : ℕ) (low color : List ℕ) : Type 0 where
  pub red : IsWithin reach (slice_index low 0) (slice_index color 0)
  pub green : IsWithin reach (slice_index low 1) (slice_index color 1)
  pub blue : IsWithin reach (slice_index low 2) (slice_index color 2)

-- the end of a cell in one channel that lies on the side of y as seen from x
abbrev pub end : (reach low x y : ℕ) → ℕ
end reach low x y = if nat_lt x y then low + reach else low

-- an entry is among the first ones of a list
pub record IsInList (short_list : ℕ → ℕ) (count k : ℕ) : Type 0 where
  pub at : ℕ
  pub below : at < count
  pub same : short_list at ≡ k

-- another entry is nearer to a color, or as near and before: its key, that is its distance, 256
-- times, and its index, is less
pub record IsBeaten (entries : List (List ℕ)) (color : List ℕ) (k : ℕ) : Type 0 where
  pub at : ℕ
  pub stands : at < length entries
  pub less : distance_to entries color at * 256 + at < distance_to entries color k * 256 + k

-- the color of a number that has a color and an index, and how far it is from another color, 256
-- times, with the index
abbrev pub word_color : ℕ → List ℕ
word_color word = word / 16777216 ∷ word / 65536 % 256 ∷ word / 256 % 256 ∷ []

abbrev pub word_key : List ℕ → ℕ → ℕ
word_key color word = distance (word_color word) color * 256 + word % 256

-- a number has the index of an entry, and its color
pub record IsWord (entries : List (List ℕ)) (word : ℕ) : Type 0 where
  pub stands : word % 256 < length entries
  pub color : word_color word ≡ slice_index_or entries (word % 256) []

-- each entry has its number at its index; at the other indices stand numbers of any entries
pub record AreWords (entries : List (List ℕ)) (words : List ℕ) : Type 0 where
  pub many : length words ≡ 256
  pub each : (k : ℕ) → k < 256 → IsWord entries (slice_index words k)
  pub own : (k : ℕ) → k < length entries → slice_index words k % 256 ≡ k
  pub few : length entries ≤ 256

-- the nearest entry to a color is among those of a list: for each that is not, another one is nearer,
-- or as near and before
pub record AreEnough (entries : List (List ℕ)) (color : List ℕ) (short_list : ℕ → ℕ) (count : ℕ) : Type 0 where
  pub some : 0 < count
  pub inside : (p : ℕ) → p < count → short_list p < length entries
  pub all : (k : ℕ) → k < length entries → IsInList short_list count k ⊎ IsBeaten entries color k

-- it is so for each color of a cell
abbrev pub AreShortListed : List (List ℕ) → (reach : ℕ) → (low : List ℕ) → (ℕ → ℕ) → ℕ → Type 0
AreShortListed entries reach low short_list count = (color : List ℕ) → IsInside reach low color → AreEnough entries color short_list count

-- how far a cell reaches: the first 32768 cells are the small ones, of eight numbers a channel, then
-- come 4096 of sixteen, 512 of thirty-two, and 64 of sixty-four
abbrev pub reach_at : ℕ → ℕ
reach_at place = if nat_lt place 32768 then 7 else (if nat_lt place 36864 then 15 else (if nat_lt place 37376 then 31 else 63))

-- the least numbers of a cell: cells of a kind are numbered by their reds, then by their greens,
-- then by their blues
abbrev pub low_at : ℕ → List ℕ
low_at place = if nat_lt place 32768 then place / 1024 * 8 ∷ place / 32 % 32 * 8 ∷ place % 32 * 8 ∷ []
    else (if nat_lt place 36864 then (place - 32768) / 256 * 16 ∷ (place - 32768) / 16 % 16 * 16 ∷ (place - 32768) % 16 * 16 ∷ []
    else (if nat_lt place 37376 then (place - 36864) / 64 * 32 ∷ (place - 36864) / 8 % 8 * 32 ∷ (place - 36864) % 8 * 32 ∷ []
    else (place - 37376) / 16 * 64 ∷ (place - 37376) / 4 % 4 * 64 ∷ (place - 37376) % 4 * 64 ∷ []))

-- a list that has no more entries than a table, and is before `used`
pub record IsPlaced (used : ℕ) (known : ShortList) : Type 0 where
  pub few : known.count ≤ 256
  pub before : known.start + known.count ≤ used

-- a list has entries enough for a cell
pub record IsListFor (entries : List (List ℕ)) (cells : InverseMap) (place : ℕ) (known : ShortList) : Type 0 where
  pub some : 0 < known.count
  pub placed : IsPlaced cells.used known
  pub short_list : AreShortListed entries (reach_at place) (low_at place) (λ p. slice_index cells.lists (known.start + p)) known.count

-- a cell has no list, or one that is placed
abbrev pub IsKnown : List (List ℕ) → List ℕ → ℕ → ℕ → ShortList → Type 0
IsKnown entries lists used place known = 0 < known.count
    → IsPlaced used known × AreShortListed entries (reach_at place) (low_at place) (λ p. slice_index lists (known.start + p)) known.count

-- the first list has entries enough for any color
pub record IsFirst (entries : List (List ℕ)) (cells : InverseMap) : Type 0 where
  pub few : cells.first ≤ 256
  pub begun : 256 ≤ cells.used
  pub enough : (color : List ℕ) → AreEnough entries color (λ p. slice_index cells.lists (0 + p)) cells.first

-- how long the lists are, that the first is right, or no cell has a list before it is written, and
-- that each cell has no list or one for it
pub record IsInverseMap (entries : List (List ℕ)) (cells : InverseMap) : Type 0 where
  pub places : length cells.known ≡ 37440
  pub lists : length cells.lists ≡ 65539
  pub used : cells.used ≤ 65536
  pub first : 0 < cells.first → IsFirst entries cells
  pub none : cells.first ≡ 0 → (k : ℕ) (d : ShortList) → k < length cells.known → (slice_index_or cells.known k d).count ≡ 0
  pub known : (k : ℕ) (d : ShortList) → k < length cells.known → IsKnown entries cells.lists cells.used k (slice_index_or cells.known k d)

-- cells have the same lists as others
pub record HasLists (old new : InverseMap) : Type 0 where
  pub known : new.known ≡ old.known
  pub lists : new.lists ≡ old.lists
  pub used : new.used ≡ old.used
  pub first : new.first ≡ old.first
