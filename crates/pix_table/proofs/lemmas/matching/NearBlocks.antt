-- Blocks that are skipped, since all their colors are too far.
use Rattle.std.proofs.Common.{◌≡◌, ℕ, ◌+◌, ◌-◌, ◌*◌, ◌/◌, ◌%◌, ◌<◌, ◌≤◌, List, [], ◌∷◌, length, map, set, take, get_or, arith, sym, ap, ap₂, ◌∙◌, subst, inl, inr}
use Rattle.std.proofs.lemmas.Bool.{cases_lt}
use Rattle.std.proofs.lemmas.List.{get_or-map, get_or-take, length-take-le}
use Rattle.pix_table.specs.threshold.ColorBlocks.{IsBlock, Lies, channels_at, channels_in}
use Rattle.pix_table.specs.matching.Lanes.{no_block}
use Rattle.pix_table.specs.matching.NearBlocks.{AreEnds, bound_of, far_lane}
use Rattle.pix_table.specs.matching.Nearest.{distance, numbers}
use Rattle.pix_table.specs.matching.SeenLanes.{no_views}
use Rattle.pix_table.specs.declared.color.Color.{Color}
use Rattle.pix_table.specs.declared.threshold.color_block.ColorBlock.{ColorBlock}
use Rattle.pix_table.specs.declared.rgba.near_blocks.BlockEnds.{BlockEnds}
use Rattle.pix_table.specs.declared.rgba.views.SeenBlock.{SeenBlock}
use Rattle.pix_table.specs.declared.rgba.views.Views.{Views}
use Rattle.pix_table.proofs.lemmas.matching.BlockGaps.{gap_least}
use Rattle.pix_table.proofs.lemmas.matching.LaneEntries.{set_below, set_there}

-- a color of a block that was made of colors
pub block_color : (colors : List Color) (block : ColorBlock) (j : ℕ) (d : Color) → IsBlock (map numbers colors) 0 block → j < 16 → length colors ≡ 16
    → channels_in block j ≡ numbers (get_or colors j d)
block_color colors block j d h inside long =
    let read : get_or (map numbers colors) j [] ≡ numbers (get_or colors j d) = get_or-map numbers colors j d [] (omega (arith, inside, long)) in
    let place : 0 + j ≡ j = omega arith in
    h.each j inside ∙ ap (channels_at (map numbers colors)) place ∙ ap (λ l. get_or l 0 0 ∷ get_or l 1 0 ∷ get_or l 2 0 ∷ []) read

-- one side of one block more is copied
pub side_more : (side : SeenBlock → ColorBlock) (blocks : List SeenBlock) (copies : List ColorBlock) (j : ℕ) (block : SeenBlock) → j < length copies
    → block ≡ get_or blocks j no_views → ((k : ℕ) → k < j → get_or copies k no_block ≡ side (get_or blocks k no_views))
    → (k : ℕ) → k < j + 1 → get_or (set copies j (side block)) k no_block ≡ side (get_or blocks k no_views)
side_more side blocks copies j block room read before k below = elim (cases_lt k j) [
  | inl b ↦ set_below copies j k (side block) no_block b ∙ before k b
  | inr b ↦
      let e : j ≡ k = omega (arith, b, below) in
      set_there copies j k (side block) no_block room e ∙ ap side (read ∙ ap (λ n. get_or blocks n no_views) e)
]

-- between which two the colors of one block more lie
pub ends_more : (blocks : List ColorBlock) (least greatest : List Color) (j : ℕ) (low high : Color) → j < length least → j < length greatest
    → ((k : ℕ) (d : Color) → k < j → (i : ℕ) → i < 16 → Lies (numbers (get_or least k d)) (numbers (get_or greatest k d)) (channels_in (get_or blocks k no_block) i))
    → ((i : ℕ) → i < 16 → Lies (numbers low) (numbers high) (channels_in (get_or blocks j no_block) i))
    → (k : ℕ) (d : Color) → k < j + 1 → (i : ℕ) → i < 16
    → Lies (numbers (get_or (set least j low) k d)) (numbers (get_or (set greatest j high) k d)) (channels_in (get_or blocks k no_block) i)
ends_more blocks least greatest j low high room space before here k d below i small = elim (cases_lt k j) [
  | inl b ↦
      subst (λ l. Lies (numbers l) (numbers (get_or (set greatest j high) k d)) (channels_in (get_or blocks k no_block) i)) (sym (set_below least j k low d b))
      (subst (λ l. Lies (numbers (get_or least k d)) (numbers l) (channels_in (get_or blocks k no_block) i)) (sym (set_below greatest j k high d b))
      (before k d b i small))
  | inr b ↦
      let e : j ≡ k = omega (arith, b, below) in
      subst (λ l. Lies (numbers l) (numbers (get_or (set greatest j high) k d)) (channels_in (get_or blocks k no_block) i)) (sym (set_there least j k low d room e))
      (subst (λ l. Lies (numbers low) (numbers l) (channels_in (get_or blocks k no_block) i)) (sym (set_there greatest j k high d space e))
      (subst (λ n. Lies (numbers low) (numbers high) (channels_in (get_or blocks n no_block) i)) e (here i small)))
]

-- the color in a lane of a block
lane_at : (blocks : List SeenBlock) (sought : Views) (j i : ℕ) → i < 16
    → far_lane blocks sought (16 * j + i)
    ≡ distance (channels_in (get_or blocks j no_views).black i) (numbers sought.black) + distance (channels_in (get_or blocks j no_views).white i) (numbers sought.white)
lane_at blocks sought j i small =
    let place : (16 * j + i) / 16 ≡ j = omega (arith, small) in
    let lane : (16 * j + i) % 16 ≡ i = omega (arith, small) in
    ap₂ (λ (k l : ℕ). distance (channels_in (get_or blocks k no_views).black l) (numbers sought.black) + distance (channels_in (get_or blocks k no_views).white l) (numbers sought.white))
    place lane

-- so no color of a block is nearer than its bound
pub lane_least : (blocks : List SeenBlock) (ends : BlockEnds) (sought : Views) (j i : ℕ) → AreEnds blocks ends → j < length blocks → i < 16
    → bound_of ends sought j ≤ far_lane blocks sought (16 * j + i)
lane_least blocks ends sought j i h inside small =
    let block : SeenBlock = get_or blocks j no_views in
    let far : far_lane blocks sought (16 * j + i)
    ≡ distance (channels_in block.black i) (numbers sought.black) + distance (channels_in block.white i) (numbers sought.white) =
    lane_at blocks sought j i small in
    omega (
      arith,
      far,
      gap_least (channels_in ends.least.black j) (channels_in ends.greatest.black j) (channels_in block.black i) (numbers sought.black) (h.black j i inside small),
      gap_least (channels_in ends.least.white j) (channels_in ends.greatest.white j) (channels_in block.white i) (numbers sought.white) (h.white j i inside small),
    )

-- the ends of the first blocks
pub first_ends : (blocks : List SeenBlock) (ends : BlockEnds) (n : ℕ) → n ≤ length blocks → AreEnds blocks ends → AreEnds (take n blocks) ends
first_ends blocks ends n room h =
    let long : length (take n blocks) ≡ n = length-take-le n blocks room in
    record {
      black = λ j i inside small.
          subst (λ b. Lies (channels_in ends.least.black j) (channels_in ends.greatest.black j) (channels_in b.black i))
          (sym (get_or-take n blocks j no_views (omega (arith, inside, long)))) (h.black j i (omega (arith, inside, long, room)) small);
      white = λ j i inside small.
          subst (λ b. Lies (channels_in ends.least.white j) (channels_in ends.greatest.white j) (channels_in b.white i))
          (sym (get_or-take n blocks j no_views (omega (arith, inside, long)))) (h.white j i (omega (arith, inside, long, room)) small);
    }
