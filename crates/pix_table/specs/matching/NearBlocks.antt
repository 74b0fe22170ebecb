-- Blocks of entries that are too far. No clause of a public call cites this file.
use Rattle.std.specs.Prelude.{ℕ, ◌+◌, ◌<◌, List, length, slice_index_or}
use Rattle.pix_table.specs.matching.BlockGaps.{block_gap}
use Rattle.pix_table.specs.threshold.ColorBlocks.{Lies, channels_in}
use Rattle.pix_table.specs.matching.Lanes.{lane_distance, no_block}
use Rattle.pix_table.specs.matching.Nearest.{distance, numbers}
use Rattle.pix_table.specs.matching.SeenLanes.{no_views}
use Rattle.pix_table.specs.declared.threshold.color_block.ColorBlock.{ColorBlock}
use Rattle.pix_table.specs.declared.rgba.near_blocks.BlockEnds.{BlockEnds}
use Rattle.pix_table.specs.declared.rgba.views.SeenBlock.{SeenBlock}
use Rattle.pix_table.specs.declared.rgba.views.Views.{Views}

-- between which two each color of sixteen blocks lies
abbrev pub AreColorEnds : (blocks : List ColorBlock) (least greatest : ColorBlock) → Type 0
AreColorEnds blocks least greatest =
    (j i : ℕ) → j < 16 → i < 16 → Lies (channels_in least j) (channels_in greatest j) (channels_in (slice_index_or blocks j no_block) i)

-- the same for some of sixteen blocks, over black and over white
pub record AreEnds (blocks : List SeenBlock) (ends : BlockEnds) : Type 0 where
  pub black : (j i : ℕ) → j < length blocks → i < 16
      → Lies (channels_in ends.least.black j) (channels_in ends.greatest.black j) (channels_in (slice_index_or blocks j no_views).black i)
  pub white : (j i : ℕ) → j < length blocks → i < 16
      → Lies (channels_in ends.least.white j) (channels_in ends.greatest.white j) (channels_in (slice_index_or blocks j no_views).white i)

-- a distance that none of the colors of a block is nearer than
abbrev pub bound_of : (ends : BlockEnds) (sought : Views) (j : ℕ) → ℕ
bound_of ends sought j =
    block_gap (channels_in ends.least.black j) (channels_in ends.greatest.black j) (numbers sought.black)
    + block_gap (channels_in ends.least.white j) (channels_in ends.greatest.white j) (numbers sought.white)

-- how far the color in a lane is seen from another one
abbrev pub far_lane : (blocks : List SeenBlock) (sought : Views) → ℕ → ℕ
far_lane blocks sought =
    lane_distance (λ block i. distance (channels_in block.black i) (numbers sought.black) + distance (channels_in block.white i) (numbers sought.white)) no_views
    blocks
