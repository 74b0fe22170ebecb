-- Colors that are seen, in lanes, and the nearest of them.
use Rattle.std.specs.Prelude.{min}
use Rattle.std.proofs.Common.{◌≡◌, ℕ, ◌+◌, ◌-◌, ◌*◌, ◌/◌, ◌%◌, ◌<◌, ◌≤◌, List, [], length, set, get_or, ap, sym, ◌∙◌, subst, arith, inl, inr}
use Rattle.std.proofs.lemmas.Bool.{cases_lt}
use Rattle.pix_table.specs.matching.Nearest.{IsNearestBy, distance, numbers}
use Rattle.pix_chan.specs.Number.{saturating_sum}
use Rattle.pix_table.specs.threshold.ColorBlocks.{IsBlock, channels_at, channels_in}
use Rattle.pix_table.specs.matching.Lanes.{IsNearestLane, lane_distance}
use Rattle.pix_table.specs.matching.EntryLanes.{blocks_for}
use Rattle.pix_table.specs.SeenPixels.{over_white, seen_distance}
use Rattle.pix_table.specs.matching.SeenLanes.{AreSeenLanes, AreViews, no_views, over_black}
use Rattle.pix_table.specs.declared.color.Color.{Color}
use Rattle.pix_table.specs.declared.threshold.color_block.ColorBlock.{ColorBlock}
use Rattle.pix_table.specs.declared.rgba.views.SeenBlock.{SeenBlock}
use Rattle.pix_table.specs.declared.rgba.lanes.SeenLanes.{SeenLanes}
use Rattle.pix_table.proofs.lemmas.matching.LaneEntries.{set_below, set_there}

-- one block more is written
pub block_written : (colors : List (List ℕ)) (side : SeenBlock → ColorBlock) (blocks : List SeenBlock) (j : ℕ) (new : SeenBlock) → j < length blocks
    → ((k : ℕ) → k < j → IsBlock colors (16 * k) (side (get_or blocks k no_views))) → IsBlock colors (16 * j) (side new)
    → (k : ℕ) → k < j + 1 → IsBlock colors (16 * k) (side (get_or (set blocks j new) k no_views))
block_written colors side blocks j new inside before here k below = elim (cases_lt k j) [
  | inl b ↦ subst (λ c. IsBlock colors (16 * k) (side c)) (sym (set_below blocks j k new no_views b)) (before k b)
  | inr b ↦
      let e : j ≡ k = omega arith in
      subst (λ c. IsBlock colors (16 * k) (side c)) (sym (set_there blocks j k new no_views inside e)) (subst (λ n. IsBlock colors (16 * n) (side new)) e here)
]

-- the distances in two blocks, added up to 65535
pub both_summed : (x y a b s : ℕ) → a ≡ min 65535 x → b ≡ min 65535 y → s ≡ saturating_sum 65535 a b → s ≡ min 65535 (x + y)
both_summed x y a b s is_a is_b is = omega arith

-- in the lanes are m entries, and behind them the last one: the nearest lane is that of an entry
record IsNearestOf (d : ℕ → ℕ) (m p : ℕ) : Type 0 where
  stands : p < m
  least : (k : ℕ) → k < m → d p ≤ d k
  first : (k : ℕ) → k < p → d p < d k

lane_of_entry : (far d : ℕ → ℕ) (n m p : ℕ) → 0 < m → m ≤ n → ((q : ℕ) → q < n → far q ≡ d (min q (m - 1))) → IsNearestLane far n p → IsNearestOf d m p
lane_of_entry far d n m p some more same h =
    let own : (q : ℕ) → q < m → far q ≡ d q = (λ q b. let e : min q (m - 1) ≡ q = omega arith in same q (omega arith) ∙ ap d e) in
    let inside : p < m = elim (cases_lt p m) [
      | inl b ↦ b
      | inr b ↦
          let last : min p (m - 1) ≡ m - 1 = omega arith in
          let equal : far p ≡ far (m - 1) = same p h.stands ∙ ap d last ∙ sym (own (m - 1) (omega arith)) in
          absurd (omega (arith, equal, h.first (m - 1) (omega arith)))
    ] in
    record {
      stands = inside;
      least = λ k b. omega (arith, own p inside, own k b, h.least k (omega arith));
      first = λ k b. omega (arith, own p inside, own k (omega arith), h.first k b);
    }

-- a view of an entry, as it stands in a block
block_view : (view : List ℕ → List ℕ) (entries views : List (List ℕ)) (q : ℕ) (channels : List ℕ) (color : List ℕ) → q < 256 → AreViews view entries views
    → channels ≡ channels_at views (16 * (q / 16) + q % 16)
    → distance channels color ≡ distance (view (get_or entries (min q (length entries - 1)) [])) color
block_view view entries views q channels color few h is =
    let q_is : 16 * (q / 16) + q % 16 ≡ q = omega arith in
    ap (λ c. distance c color) (is ∙ ap (channels_at views) q_is) ∙ ap (λ c. distance c color) (h.each q few)

-- so the nearest lane is that of the entry that is seen nearest
pub seen_nearest : (entries : List (List ℕ)) (lanes : SeenLanes) (blocks : List SeenBlock) (color : List ℕ) (black white : Color) (p : ℕ) → AreSeenLanes entries lanes
    → length blocks ≡ blocks_for lanes.len → ((k : ℕ) → k < blocks_for lanes.len → get_or blocks k no_views ≡ get_or lanes.blocks k no_views)
    → numbers black ≡ over_black color → numbers white ≡ over_white color
    → IsNearestLane (lane_distance (λ block i. distance (channels_in block.black i) (numbers black) + distance (channels_in block.white i) (numbers white)) no_views blocks)
    (16 * length blocks) p
    → IsNearestBy seen_distance entries color p
seen_nearest entries lanes blocks color black white p h long same is_black is_white near =
    let far : ℕ → ℕ =
    lane_distance (λ block i. distance (channels_in block.black i) (numbers black) + distance (channels_in block.white i) (numbers white)) no_views blocks in
    let d : ℕ → ℕ = (λ k. seen_distance (get_or entries k []) color) in
    let some : 0 < lanes.len = lanes.some in
    let few : lanes.len ≤ 256 = lanes.few in
    let lane : (q : ℕ) → q < 16 * length blocks → far q ≡ d (min q (length entries - 1)) =
    (λ q b.
    let inside : q / 16 < blocks_for lanes.len = omega (arith, long) in
    let small : q < 256 = omega (arith, long) in
    let entry : List ℕ = get_or entries (min q (length entries - 1)) [] in
    let block : SeenBlock = get_or lanes.blocks (q / 16) no_views in
    let on_black = block_view over_black entries h.blacks q (channels_in block.black (q % 16)) (numbers black) small h.black
    ((h.in_black (q / 16) (omega arith)).each (q % 16) (omega arith)) in
    let on_white = block_view over_white entries h.whites q (channels_in block.white (q % 16)) (numbers white) small h.white
    ((h.in_white (q / 16) (omega arith)).each (q % 16) (omega arith)) in
    let same_black : distance (over_black entry) (numbers black) ≡ distance entry color = ap (λ c. distance (over_black entry) c) is_black in
    let same_white : distance (over_white entry) (numbers white) ≡ distance (over_white entry) (over_white color) = ap (λ c. distance (over_white entry) c) is_white in
    ap (λ (b : SeenBlock). distance (channels_in b.black (q % 16)) (numbers black) + distance (channels_in b.white (q % 16)) (numbers white)) (same (q / 16) inside)
    ∙ ap (λ n. n + distance (channels_in block.white (q % 16)) (numbers white)) (on_black ∙ same_black)
    ∙ ap (λ n. distance entry color + n) (on_white ∙ same_white)) in
    let found = lane_of_entry far d (16 * length blocks) (length entries) p (omega (arith, h.len)) (omega (arith, h.len, long)) lane near in
    record { stands = found.stands; least = found.least; first = found.first }
