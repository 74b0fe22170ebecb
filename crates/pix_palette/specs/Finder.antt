-- How a finder keeps the entries of a palette: by the places of their colors. No clause that a user
-- reads cites this file.
use Rattle.std.specs.Prelude.{◌≡◌, ◌≢◌, ◌⊎◌, ℕ, ◌+◌, ◌*◌, ◌/◌, ◌%◌, ◌-◌, ◌<◌, ◌≤◌, min, false, List, [], ◌∷◌, length, slice_index, slice_index_or}
use Rattle.pix_table.specs.threshold.ColorBlocks.{AreBlocks}
use Rattle.pix_table.specs.threshold.PaletteMatch.{difference_to, is_within}
use Rattle.pix_table.specs.matching.BlockBounds.{AreBlockBounds}
use Rattle.pix_palette.specs.declared.palette.palette_blocks.PaletteBlocks.{PaletteBlocks}
use Rattle.pix_palette.specs.declared.palette.finder.Finder.{Finder}
use Rattle.pix_palette.specs.declared.palette.threshold_search.ThresholdSearch.{ThresholdSearch}

-- the place of a color: its channels as one number, times an odd constant near 2^32 over the golden
-- ratio; the place is the middle bits of the product
abbrev pub place : List ℕ → ℕ
place color = (slice_index color 0 * 65536 + slice_index color 1 * 256 + slice_index color 2) * 2654435761 / 67108864 % 16384

-- the cell of a color: how many times eight its red and green are, and how many times sixteen its
-- blue, and these as one number
abbrev pub steps : List ℕ → List ℕ
steps color = min (slice_index color 0 / 8) 31 ∷ min (slice_index color 1 / 8) 31 ∷ min (slice_index color 2 / 16) 15 ∷ []

abbrev pub cell : List ℕ → ℕ
cell color = slice_index (steps color) 0 * 512 + slice_index (steps color) 1 * 16 + slice_index (steps color) 2

-- the place of the color of an entry, where `placing` gives each color one
abbrev pub place_at : (List ℕ → ℕ) → List (List ℕ) → ℕ → ℕ
place_at placing colors i = placing (slice_index_or colors i [])

-- of the first n colors, the last one that has a place is that before number k, and none has it
-- where k is 0
pub record IsLatest (placing : List ℕ → ℕ) (colors : List (List ℕ)) (h n k : ℕ) : Type 0 where
  pub within : k ≤ n
  pub placed : 0 < k → place_at placing colors (k - 1) ≡ h
  pub none : (i : ℕ) → k ≤ i → i < n → place_at placing colors i ≢ h

-- for each place the latest color that has it, and for each of the first colors the one before it
-- that has its place
pub record AreLists (placing : List ℕ → ℕ) (colors : List (List ℕ)) (latest earlier : List ℕ) : Type 0 where
  pub made : (length latest ≡ 16384) ⊎ ((length latest ≡ 0) × (length earlier ≡ 0))
  pub within : length earlier ≤ length colors
  pub last : (h d : ℕ) → h < length latest → IsLatest placing colors h (length earlier) (slice_index_or latest h d)
  pub before : (i d : ℕ) → i < length earlier → IsLatest placing colors (place_at placing colors i) i (slice_index_or earlier i d)

-- they have all colors
pub record IsWhole (colors : List (List ℕ)) (latest earlier : List ℕ) : Type 0 where
  pub made : length latest ≡ 16384
  pub all : length earlier ≡ length colors

-- of the entries from one index on and before another, those for which this holds are farther from
-- a color than a difference in some channel
abbrev pub AreFar : (colors : List (List ℕ)) (color difference : List ℕ) (from to : ℕ) → (List ℕ → Type 0) → Type 0
AreFar colors color difference from to holds =
    (k : ℕ) → from ≤ k → k < to → holds (slice_index_or colors k []) → is_within (difference_to colors color k) difference ≡ false

-- no entry is the color: each differs
abbrev pub IsNowhere : List (List ℕ) → List ℕ → Type 0
IsNowhere colors color = (k : ℕ) → k < length colors → difference_to colors color k ≢ 0 ∷ 0 ∷ 0 ∷ []

-- blocks of the first entries, with their bounds
pub record HasBlocks (colors : List (List ℕ)) (has : PaletteBlocks) : Type 0 where
  pub blocks : AreBlocks colors has.blocks.items
  pub spans : AreBlockBounds has.blocks.items has.spans.items

-- lists by cells, of the first entries, and blocks of the first entries
pub record HasThresholdSearch (colors : List (List ℕ)) (near : ThresholdSearch) : Type 0 where
  pub cells : AreLists cell colors near.cells.latest.items near.cells.earlier.items
  pub blocks : HasBlocks colors near.blocks

-- a finder knows the places of the first entries, and what is near them
pub record Follows (colors : List (List ℕ)) (finder : Finder) : Type 0 where
  pub places : AreLists place colors finder.lists.latest.items finder.lists.earlier.items
  pub near : HasThresholdSearch colors finder.near
