-- The bounds of blocks.
use Rattle.std.specs.Prelude.{◌/◌, ◌%◌}
use Rattle.std.specs.Int.{bit_at}
use Rattle.std.proofs.Common.{◌≡◌, ℕ, true, ◌+◌, ◌-◌, ◌*◌, ◌^◌, ◌≤◌, ◌<◌, false, List, [], ◌∷◌, length, get_or, take, drop, arith, sym, ap, ◌∙◌, subst, inl, inr}
use Rattle.std.proofs.lemmas.Bool.{cases_lt, cases_Bool}
use Rattle.std.proofs.lemmas.Bool.Decides.{nat_tests}
use Rattle.std.proofs.lemmas.List.{get_or-drop, get_or-take}
use Rattle.pix_table.specs.threshold.ColorBlocks.{IsFar, Lies, channels_in}
use Rattle.pix_table.specs.threshold.PaletteMatch.{apart, color_difference, is_within}
use Rattle.pix_table.specs.matching.BlockBounds.{AreFarBefore, AreBlockBounds, Covers, IsReach, greatest_at, least_at, meets}
use Rattle.pix_table.specs.declared.matching.block_bounds.BlockBounds.{BlockBounds}
use Rattle.pix_table.specs.declared.threshold.color_block.ColorBlock.{ColorBlock}
use Rattle.pix_table.proofs.BitLemmas.{shifted_bit}

-- bounds with no numbers, which stand for those behind the last
abbrev pub no_spans : BlockBounds
no_spans = record { least_red = []; least_green = []; least_blue = []; greatest_red = []; greatest_green = []; greatest_blue = [] }

-- the three parts of a difference that is within another
within_parts : (x y z a b c : ℕ) → is_within (x ∷ y ∷ z ∷ []) (a ∷ b ∷ c ∷ []) ≡ true → (x ≤ a) × (y ≤ b) × (z ≤ c)
within_parts x y z a b c h = (grind (arith, nat_tests), grind (arith, nat_tests), grind (arith, nat_tests))

near_parts : (color difference near : List ℕ) → is_within (color_difference near color) difference ≡ true
    → (apart (get_or near 0 0) (get_or color 0 0) ≤ get_or difference 0 0) × (apart (get_or near 1 0) (get_or color 1 0) ≤ get_or difference 1 0)
    × (apart (get_or near 2 0) (get_or color 2 0) ≤ get_or difference 2 0)
near_parts color difference near h =
    within_parts (apart (get_or near 0 0) (get_or color 0 0)) (apart (get_or near 1 0) (get_or color 1 0)) (apart (get_or near 2 0) (get_or color 2 0)) (get_or difference 0 0) (get_or difference 1 0) (get_or difference 2 0) h

-- two bounds meet whose ends lie so
meets_by : (a b c d e f g h i j k l : ℕ) → a ≤ b → c ≤ d → e ≤ f → g ≤ h → i ≤ j → k ≤ l
    → meets (c ∷ g ∷ k ∷ []) (b ∷ f ∷ j ∷ []) (a ∷ e ∷ i ∷ []) (d ∷ h ∷ l ∷ []) ≡ true
meets_by a b c d e f g h i j k l ab cd ef gh ij kl = grind (arith, nat_tests)

-- the bounds of a color within a difference of another meet the reach of that
span_meets : (least greatest color difference low high near : List ℕ) → IsReach color difference low high → Lies least greatest near
    → get_or greatest 0 0 ≤ 255 → get_or greatest 1 0 ≤ 255 → get_or greatest 2 0 ≤ 255
    → is_within (color_difference near color) difference ≡ true → meets low high least greatest ≡ true
span_meets least greatest color difference low high near reach lies red green blue within =
    let parts = near_parts color difference near within in
    rw (reach.low_is, reach.high_is)
    (meets_by (get_or least 0 0) _ _ (get_or greatest 0 0) (get_or least 1 0) _ _ (get_or greatest 1 0) (get_or least 2 0) _ _ (get_or greatest 2 0)
    (omega (arith, parts.0, lies.red_low, lies.red_high, red)) (omega (arith, parts.0, lies.red_high))
    (omega (arith, parts.1, lies.green_low, lies.green_high, green)) (omega (arith, parts.1, lies.green_high))
    (omega (arith, parts.2, lies.blue_low, lies.blue_high, blue)) (omega (arith, parts.2, lies.blue_high)))

-- a block whose bounds do not meet the reach of a color has no color within the difference
pub far_by_span : (spans : BlockBounds) (j : ℕ) (block : ColorBlock) (color difference low high : List ℕ) → Covers spans j block → IsReach color difference low high
    → meets low high (least_at spans j) (greatest_at spans j) ≡ false → IsFar block color difference
far_by_span spans j block color difference low high covers reach apart i below =
    elim (cases_Bool (is_within (color_difference (channels_in block i) color) difference)) [
      | inl near ↦ absurd (
          let met : meets low high (least_at spans j) (greatest_at spans j) ≡ true =
          span_meets (least_at spans j) (greatest_at spans j) color difference low high (channels_in block i) reach (covers.colors i below) covers.red covers.green covers.blue near in
          cc)
      | inr far ↦ far
    ]

-- a block is far whose bounds do not meet the reach
far_in_group : (blocks : List ColorBlock) (spans : List BlockBounds) (s : BlockBounds) (k : ℕ) (d : ColorBlock) (color difference low high : List ℕ)
    → AreBlockBounds blocks spans → IsReach color difference low high → k < length blocks
    → meets low high (least_at (get_or spans (k / 16) s) (k % 16)) (greatest_at (get_or spans (k / 16) s) (k % 16)) ≡ false
    → IsFar (get_or blocks k d) color difference
far_in_group blocks spans s k d color difference low high are reach below apart =
    far_by_span (get_or spans (k / 16) s) (k % 16) (get_or blocks k d) color difference low high (are.each k d s below) reach apart

-- blocks from k on in its group are far that are so where the bit of bounds which meet the reach
-- is set
pub group_far : (blocks : List ColorBlock) (spans : List BlockBounds) (s : BlockBounds) (k m n bits : ℕ) (color difference low high : List ℕ)
    → AreBlockBounds blocks spans → IsReach color difference low high → k + n ≤ length blocks → k + n ≤ k / 16 * 16 + 16 → n ≤ m
    → ((j : ℕ) → j < 16 → meets low high (least_at (get_or spans (k / 16) s) j) (greatest_at (get_or spans (k / 16) s) j) ≡ true → bit_at bits j ≡ 1)
    → AreFarBefore (take m (drop k blocks)) (bits / 2 ^ (k % 16)) color difference n
    → (i : ℕ) (d : ColorBlock) → k ≤ i → i < k + n → IsFar (get_or blocks i d) color difference
group_far blocks spans s k m n bits color difference low high are reach within inside few set far i d after before =
    let group : k / 16 ≡ i / 16 = omega arith in
    let lane : k % 16 + (i - k) ≡ i % 16 = omega arith in
    let place : k + (i - k) ≡ i = omega arith in
    elim (cases_Bool (meets low high (least_at (get_or spans (i / 16) s) (i % 16)) (greatest_at (get_or spans (i / 16) s) (i % 16)))) [
      | inl met ↦
          let there : bit_at bits (i % 16) ≡ 1 =
          set (i % 16) (omega arith) (subst (λ g. meets low high (least_at (get_or spans g s) (i % 16)) (greatest_at (get_or spans g s) (i % 16)) ≡ true) (sym group) met) in
          let shown : bit_at (bits / 2 ^ (k % 16)) (i - k) ≡ 1 = shifted_bit bits (k % 16) (i - k) ∙ ap (bit_at bits) lane ∙ there in
          let block : get_or (take m (drop k blocks)) (i - k) d ≡ get_or blocks i d =
          get_or-take m (drop k blocks) (i - k) d (omega arith) ∙ get_or-drop k blocks (i - k) d ∙ ap (λ j. get_or blocks j d) place in
          subst (λ b. IsFar b color difference) block (far (i - k) d (omega arith) shown)
      | inr apart ↦ far_in_group blocks spans s i d color difference low high are reach (omega arith) apart
    ]

-- blocks stay far where no bit is set
pub clear_far : (blocks : List ColorBlock) (bits rest k t n : ℕ) (color difference : List ℕ) → AreFarBefore blocks bits color difference k
    → ((j : ℕ) → bit_at bits (k + j) ≡ bit_at rest j) → ((i : ℕ) → i < t → bit_at rest i ≡ 0) → n ≤ k + t → AreFarBefore blocks bits color difference n
clear_far blocks bits rest k t n color difference far same clear within j d below is = elim (cases_lt j k) [
  | inl b ↦ far j d b is
  | inr b ↦
      let place : k + (j - k) ≡ j = omega arith in
      let none : bit_at bits j ≡ 0 = ap (bit_at bits) (sym place) ∙ same (j - k) ∙ clear (j - k) (omega arith) in
      absurd (omega (arith, none, is))
]

-- and with one more that is far
pub far_more : (blocks : List ColorBlock) (bits k : ℕ) (color difference : List ℕ) → AreFarBefore blocks bits color difference k
    → ((d : ColorBlock) → IsFar (get_or blocks k d) color difference) → AreFarBefore blocks bits color difference (k + 1)
far_more blocks bits k color difference far new j d below is = elim (cases_lt j k) [
  | inl b ↦ far j d b is
  | inr b ↦
      let same : k ≡ j = omega arith in
      subst (λ n. IsFar (get_or blocks n d) color difference) same (new d)
]
