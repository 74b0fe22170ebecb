-- The least keys of lanes and of blocks.
use Rattle.std.specs.Prelude.{min}
use Rattle.std.proofs.Common.{◌≡◌, ◌≢◌, ℕ, ◌+◌, ◌-◌, ◌*◌, ◌/◌, ◌%◌, ◌^◌, ◌<◌, ◌≤◌, List, length, map, get_or, replicate, ap, sym, ◌∙◌, subst, arith, inl, inr, Bool, cond, leb, le-leb, false}
use mir.Syntax.{w16}
use mir.Val.{hbits, bits}
use lib.Lanes.{zip2, top, mask_l}
use Rattle.std.specs.Int.{bit_at}
use Rattle.std.proofs.lemmas.Bool.{cases_lt}
use Rattle.std.proofs.lemmas.List.{get_or-map}
use Rattle.std.proofs.lemmas.Nat.Bits.{bit_at-lt}
use Rattle.std.proofs.lemmas.Simd.{bitmask_splat, bit_mask_l}
use Rattle.pix_table.specs.matching.Lanes.{IsBlockKey, IsLaneKey, IsLeastOf, IsNearestLane, key_of, lane_distance}
use Rattle.pix_table.proofs.lemmas.matching.LaneNumbers.{splat_at}
use Rattle.pix_table.proofs.lemmas.matching.LaneSearch.{AreKeys, lane_distance_is}

-- the least key of a block, one of whose colors is nearer than 65535
pub near_block_key : {B : Type 0} (apart : B → ℕ → ℕ) (blocks : List B) (block : B) (j : ℕ) (least keys : List ℕ) (key : ℕ) → j < length blocks
    → block ≡ get_or blocks j block → ((i : ℕ) → i < 16 → get_or least i 0 ≡ min 65535 (apart block i))
    → ((i : ℕ) → i < 16 → get_or keys i 0 ≡ get_or least i 0 * 65536 + (16 * get_or (replicate 16 0) i 0 + i))
    → IsLeastOf keys 16 key → key < 4294901760
    → (none : B) → IsBlockKey (lane_distance apart none blocks) j (key / 65536 * 256 + 16 * j + key % 256)
near_block_key apart blocks block j least keys key inside read is own h near none =
    let far : ℕ → ℕ = lane_distance apart none blocks in
    let there : (i : ℕ) → i < 16 → get_or least i 0 ≡ min 65535 (far (16 * j + i)) =
    (λ i b. is i b ∙ ap (λ c. min 65535 (apart c i)) read ∙ ap (min 65535) (lane_distance_is apart none blocks j i block inside b)) in
    let each : (i : ℕ) → i < 16 → get_or keys i 0 ≡ get_or least i 0 * 65536 + i = (λ i b. omega (arith, own i b, splat_at 0 i b)) in
    let here = there h.at h.stands in
    let e : key ≡ get_or least h.at 0 * 65536 + h.at = h.is ∙ each h.at h.stands in
    record {
      at = h.at;
      stands = h.stands;
      is = omega (arith, e, here, h.stands, near);
      below = λ i b. omega (arith, e, here, h.stands, near, each i b, there i b, h.below i b);
    }

-- the same where the keys are wide enough for all distances
pub far_block_key : {B : Type 0} (apart : B → ℕ → ℕ) (blocks : List B) (block : B) (j : ℕ) (keys : List ℕ) (key : ℕ) → j < length blocks
    → block ≡ get_or blocks j block → AreKeys apart block j keys → IsLeastOf keys 16 key → (none : B) → IsBlockKey (lane_distance apart none blocks) j key
far_block_key apart blocks block j keys key inside read are h none =
    let far : ℕ → ℕ = lane_distance apart none blocks in
    let each : (i : ℕ) → i < 16 → get_or keys i 0 ≡ key_of far (16 * j + i) =
    (λ i b. are.each i b ∙ ap (λ n. n * 256 + (16 * j + i)) (ap (λ c. apart c i) read ∙ lane_distance_is apart none blocks j i block inside b)) in
    record {
      at = h.at;
      stands = h.stands;
      is = h.is ∙ each h.at h.stands;
      below = λ i b. omega (arith, each i b, h.below i b);
    }

-- a key of a lane is no greater than those of the first k blocks whose bit is set
abbrev pub IsLeastOfBits : (far : ℕ → ℕ) (bits k key : ℕ) → Type 0
IsLeastOfBits far bits k key = (j i : ℕ) → j < k → i < 16 → bit_at bits j ≡ 1 → key ≤ key_of far (16 * j + i)

-- nor than those of blocks behind them whose bits are clear
pub bits_clear : (far : ℕ → ℕ) (bits rest k t n key : ℕ) → IsLeastOfBits far bits k key → ((j : ℕ) → bit_at bits (k + j) ≡ bit_at rest j)
    → ((i : ℕ) → i < t → bit_at rest i ≡ 0) → n ≤ k + t → IsLeastOfBits far bits n key
bits_clear far bits rest k t n key least same clear within j i below small is = elim (cases_lt j k) [
  | inl b ↦ least j i b small is
  | inr b ↦
      let place : k + (j - k) ≡ j = omega arith in
      let none : bit_at bits j ≡ 0 = ap (bit_at bits) (sym place) ∙ same (j - k) ∙ clear (j - k) (omega arith) in
      absurd (omega (arith, none, is))
]

-- the lesser of a key and the least of one block more
pub bits_more : (far : ℕ → ℕ) (bits k key new now : ℕ) → IsLeastOfBits far bits k key → IsBlockKey far k new → now ≡ min key new
    → IsLeastOfBits far bits (k + 1) now
bits_more far bits k key new now least h e j i below small is = elim (cases_lt j k) [
  | inl b ↦ omega (arith, e, least j i b small is)
  | inr b ↦
      let same : k ≡ j = omega arith in
      subst (λ n. now ≤ key_of far (16 * n + i)) same (omega (arith, e, h.below i small))
]

-- the least key of a block is one of a lane
pub block_lane : (far : ℕ → ℕ) (k n key : ℕ) → IsBlockKey far k key → k < n → IsLaneKey far (16 * n) key
block_lane far k n key h inside = record { lane = 16 * k + h.at; stands = omega (arith, h.stands); is = h.is }

pub lane_more : (far : ℕ → ℕ) (k n key new now : ℕ) → IsLaneKey far (16 * n) key → IsBlockKey far k new → k < n → now ≡ min key new
    → IsLaneKey far (16 * n) now
lane_more far k n key new now h block inside e = elim (cases_lt new key) [
  | inl less ↦
      let same : new ≡ now = omega (arith, e, less) in
      subst (IsLaneKey far (16 * n)) same (block_lane far k n new block inside)
  | inr more ↦
      let same : key ≡ now = omega (arith, e, more) in
      subst (IsLaneKey far (16 * n)) same h
]

-- the lane of the least key is the nearest, the first of equals
pub nearest_of_key : (far : ℕ → ℕ) (n key : ℕ) → n ≤ 256 → IsLaneKey far n key → ((q : ℕ) → q < n → key ≤ key_of far q) → IsNearestLane far n (key % 256)
nearest_of_key far n key few h least =
    let e : key ≡ far h.lane * 256 + h.lane = h.is in
    let r : key % 256 ≡ h.lane = omega (arith, e, h.stands) in
    let is : far (key % 256) ≡ far h.lane = ap far r in
    record {
      stands = omega (arith, r, h.stands);
      least = λ q b. omega (arith, is, e, least q b, h.stands);
      first = λ q b. omega (arith, is, e, r, least q (omega (arith, r, b, h.stands)), h.stands);
    }

-- a bit that says whether a test is passed
abbrev flag : Bool → ℕ
flag t = cond t 1 0

-- the bit of a lane is clear only where it is above a number
pub clear_lane_above : (xs : List ℕ) (j y : ℕ) → length xs ≡ 16 → j < 16
    → bit_at (mask_l (map (top (hbits w16)) (zip2 (λ a b. cond (leb a b) (2 ^ bits w16 - 1) 0) xs (replicate 16 y))) % 2 ^ 64) j ≡ 0 → y < get_or xs j 0
clear_lane_above xs j y long below clear =
    let lane : get_or (map (λ x. leb x y) xs) j false ≡ leb (get_or xs j 0) y = get_or-map (λ x. leb x y) xs j 0 false (omega (arith, long)) in
    let bit : flag (leb (get_or xs j 0) y) ≡ 0 =
    ap flag (sym lane) ∙ sym (bit_mask_l (map (λ x. leb x y) xs) j) ∙ sym (ap (λ m. bit_at m j) (bitmask_splat w16 leb xs 16 y long (omega arith))) ∙ clear in
    elim (cases_lt y (get_or xs j 0)) [
      | inl above ↦ above
      | inr within ↦
          let one : 1 ≡ 0 = ap flag (sym (le-leb (get_or xs j 0) y within)) ∙ bit in
          absurd (omega (arith, one))
    ]

-- a key is no greater than any of n blocks, where it is not above that of its own block, nor above those of others whose bit is set, and where the colors
-- of the others are farther
pub least_of_all : (far : ℕ → ℕ) (bits others own first key n j i : ℕ) → IsBlockKey far own first → key ≤ first
    → ((k i : ℕ) → k < n → i < 16 → bit_at bits k ≡ 0 → first / 256 < far (16 * k + i))
    → ((k : ℕ) → k < n → k ≢ own → bit_at others k ≡ bit_at bits k)
    → IsLeastOfBits far others n key → j < n → i < 16 → key ≤ key_of far (16 * j + i)
least_of_all far bits others own first key n j i block less past same each inside small =
    let other : j ≢ own → key ≤ key_of far (16 * j + i) =
    (λ not_own. elim (cases_lt (bit_at others j) 1) [
      | inl clear ↦
          let none : bit_at bits j ≡ 0 = omega (arith, same j inside not_own, clear) in
          omega (arith, less, past j i inside small none)
      | inr set ↦ each j i inside small (omega (arith, set, bit_at-lt others j))
    ]) in
    elim (cases_lt j own) [
      | inl before ↦ other (λ e. absurd (omega (arith, before, e)))
      | inr from ↦ elim (cases_lt own j) [
        | inl behind ↦ other (λ e. absurd (omega (arith, behind, e)))
        | inr to ↦
            let e : own ≡ j = omega (arith, from, to) in
            subst (λ k. key ≤ key_of far (16 * k + i)) e (omega (arith, less, block.below i small))
      ]
    ]
