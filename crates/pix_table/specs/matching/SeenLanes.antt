-- Colors that are seen, in lanes. No clause of a public call cites this file.
use Rattle.std.specs.Prelude.{◌≡◌, ℕ, ◌-◌, ◌*◌, ◌<◌, List, [], ◌∷◌, length, min, slice_index, slice_index_or}
use Rattle.pix_table.specs.threshold.ColorBlocks.{IsBlock}
use Rattle.pix_table.specs.SeenPixels.{over_white}
use Rattle.pix_table.specs.matching.Lanes.{no_block}
use Rattle.pix_table.specs.declared.rgba.views.SeenBlock.{SeenBlock}
use Rattle.pix_table.specs.declared.rgba.lanes.SeenLanes.{SeenLanes}

-- the color of a pixel over black
abbrev pub over_black : List ℕ → List ℕ
over_black color = slice_index color 0 ∷ slice_index color 1 ∷ slice_index color 2 ∷ []

-- 256 views of some entries, and behind them of the last one
pub record AreViews (view : List ℕ → List ℕ) (entries views : List (List ℕ)) : Type 0 where
  pub many : length views ≡ 256
  pub each : (p : ℕ) → p < 256 → slice_index_or views p [] ≡ view (slice_index_or entries (min p (length entries - 1)) [])

-- no colors
abbrev pub no_views : SeenBlock
no_views = record { black = no_block; white = no_block }

-- the entries of a table are in lanes, over black and over white
pub record AreSeenLanes (entries : List (List ℕ)) (lanes : SeenLanes) : Type 0 where
  pub len : lanes.len ≡ length entries
  pub blacks : List (List ℕ)
  pub whites : List (List ℕ)
  pub black : AreViews over_black entries blacks
  pub white : AreViews over_white entries whites
  pub in_black : (k : ℕ) → k < 16 → IsBlock blacks (16 * k) (slice_index_or lanes.blocks k no_views).black
  pub in_white : (k : ℕ) → k < 16 → IsBlock whites (16 * k) (slice_index_or lanes.blocks k no_views).white
