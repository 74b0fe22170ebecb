-- The entries of a table in blocks of sixteen, and the last candidate among the first of them. No
-- clause that a user reads cites this file.
use Rattle.std.specs.Prelude.{◌≡◌, ℕ, ◌+◌, ◌*◌, ◌<◌, ◌≤◌, List, [], ◌∷◌, length, slice_index, slice_index_or, false}
use Rattle.pix_table.specs.threshold.PaletteMatch.{color_difference, difference_to, is_within, AreCandidates}
use Rattle.pix_table.specs.declared.threshold.color_block.ColorBlock.{ColorBlock}

-- the last candidate among the first n entries, and its difference
pub record IsBest (entries : List (List ℕ)) (color : List ℕ) (n at : ℕ) (least : List ℕ) : Type 0 where
  pub below : at < n
  pub candidates : List ℕ
  pub last : AreCandidates (difference_to entries color) n 0 candidates at
  pub same : least ≡ difference_to entries color at

-- the red, green and blue of an entry
abbrev pub channels_at : List (List ℕ) → ℕ → List ℕ
channels_at entries i =
    slice_index (slice_index_or entries i []) 0 ∷ slice_index (slice_index_or entries i []) 1 ∷ slice_index (slice_index_or entries i []) 2 ∷ []

-- the same of one of the sixteen colors of a block
abbrev pub channels_in : ColorBlock → ℕ → List ℕ
channels_in block i = slice_index block.red i ∷ slice_index block.green i ∷ slice_index block.blue i ∷ []

-- the numbers of a color lie between those of two others
pub record Lies (low high color : List ℕ) : Type 0 where
  pub red_low : slice_index low 0 ≤ slice_index color 0
  pub red_high : slice_index color 0 ≤ slice_index high 0
  pub green_low : slice_index low 1 ≤ slice_index color 1
  pub green_high : slice_index color 1 ≤ slice_index high 1
  pub blue_low : slice_index low 2 ≤ slice_index color 2
  pub blue_high : slice_index color 2 ≤ slice_index high 2

-- no color of a block is within a difference of a color
abbrev pub IsFar : ColorBlock → List ℕ → List ℕ → Type 0
IsFar block color difference = (i : ℕ) → i < 16 → is_within (color_difference (channels_in block i) color) difference ≡ false

-- a block has the channels of sixteen entries
pub record IsBlock (entries : List (List ℕ)) (start : ℕ) (block : ColorBlock) : Type 0 where
  pub within : start + 16 ≤ length entries
  pub each : (i : ℕ) → i < 16 → channels_in block i ≡ channels_at entries (start + i)

-- blocks have those of the first entries
abbrev pub AreBlocks : List (List ℕ) → List ColorBlock → Type 0
AreBlocks entries blocks = (k : ℕ) (d : ColorBlock) → k < length blocks → IsBlock entries (16 * k) (slice_index_or blocks k d)
