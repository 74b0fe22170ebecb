-- Between which bounds the colors of blocks lie. No clause that a user reads cites this file.
use Rattle.std.specs.Prelude.{◌≡◌, ℕ, ◌+◌, ◌-◌, ◌/◌, ◌%◌, ◌<◌, ◌≤◌, min, Bool, ◌&&◌, nat_le, List, [], ◌∷◌, length, slice_index, slice_index_or}
use Rattle.std.specs.Int.{bit_at}
use Rattle.pix_table.specs.threshold.ColorBlocks.{IsFar, Lies, channels_in}
use Rattle.pix_table.specs.declared.matching.block_bounds.BlockBounds.{BlockBounds}
use Rattle.pix_table.specs.declared.threshold.color_block.ColorBlock.{ColorBlock}

-- the lower bounds of one of sixteen blocks, and the upper ones
abbrev pub least_at : BlockBounds → ℕ → List ℕ
least_at spans j = slice_index spans.least_red j ∷ slice_index spans.least_green j ∷ slice_index spans.least_blue j ∷ []

abbrev pub greatest_at : BlockBounds → ℕ → List ℕ
greatest_at spans j = slice_index spans.greatest_red j ∷ slice_index spans.greatest_green j ∷ slice_index spans.greatest_blue j ∷ []

-- all colors of a block lie within one of sixteen bounds, and the upper bounds are bytes
pub record Covers (spans : BlockBounds) (j : ℕ) (block : ColorBlock) : Type 0 where
  pub colors : (i : ℕ) → i < 16 → Lies (least_at spans j) (greatest_at spans j) (channels_in block i)
  pub red : slice_index spans.greatest_red j ≤ 255
  pub green : slice_index spans.greatest_green j ≤ 255
  pub blue : slice_index spans.greatest_blue j ≤ 255

-- there are bounds of each of the blocks
pub record AreBlockBounds (blocks : List ColorBlock) (spans : List BlockBounds) : Type 0 where
  pub enough : (k : ℕ) → k < length blocks → k / 16 < length spans
  pub each : (k : ℕ) (b : ColorBlock) (s : BlockBounds) → k < length blocks
      → Covers (slice_index_or spans (k / 16) s) (k % 16) (slice_index_or blocks k b)

-- the least and the greatest bytes that are no farther from those of a color than a difference
pub record IsReach (color difference low high : List ℕ) : Type 0 where
  pub low_is : low ≡ (slice_index color 0 - slice_index difference 0) ∷ (slice_index color 1 - slice_index difference 1)
      ∷ (slice_index color 2 - slice_index difference 2) ∷ []
  pub high_is : high ≡ min (slice_index color 0 + slice_index difference 0) 255 ∷ min (slice_index color 1 + slice_index difference 1) 255
      ∷ min (slice_index color 2 + slice_index difference 2) 255 ∷ []

-- whether, in every channel, two bounds have a number in common
abbrev pub meets : List ℕ → List ℕ → List ℕ → List ℕ → Bool
meets low high least greatest =
    nat_le (slice_index least 0) (slice_index high 0) && nat_le (slice_index low 0) (slice_index greatest 0)
    && nat_le (slice_index least 1) (slice_index high 1) && nat_le (slice_index low 1) (slice_index greatest 1)
    && nat_le (slice_index least 2) (slice_index high 2) && nat_le (slice_index low 2) (slice_index greatest 2)

-- of the blocks before one, those whose bit is set have no color within a difference of a color
abbrev pub AreFarBefore : List ColorBlock → (bits : ℕ) (color difference : List ℕ) → ℕ → Type 0
AreFarBefore blocks bits color difference k =
    (j : ℕ) (d : ColorBlock) → j < k → bit_at bits j ≡ 1 → IsFar (slice_index_or blocks j d) color difference
