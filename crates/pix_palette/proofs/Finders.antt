-- Entries that are found by the places of their colors.
use Rattle.std.specs.Prelude.{slice_index, slice_index_or, MatchOption, ◌&&◌, nat_eq, replicate}
use Rattle.std.proofs.Common.{◌≡◌, ◌≢◌, ℕ, ◌+◌, ◌-◌, ◌*◌, ◌<◌, ◌≤◌, Bool, true, false, List, [], ◌∷◌, ◌++◌, length, map, refl, arith, sym, ap, ◌∙◌, subst, inl, inr, Option, Some, None, get_or, set, length-append, length-set}
use Rattle.std.proofs.lemmas.Bool.{cases_lt, cases_eq, true≢false}
use Rattle.std.proofs.lemmas.List.{get_or-replicate, length-replicate, get_or-set_same, get_or-set_other, get_or_append_left}
use Rattle.std.proofs.Math.Seq.{get_or-append_seam}
use Rattle.std.proofs.lemmas.Bool.Decides.{nat_tests}
use Rattle.pix_table.specs.quantization.Quantization.{same_color}
use Rattle.pix_table.specs.threshold.PaletteMatch.{color_difference, difference_to, IsFirstOf}
use Rattle.pix_table.proofs.lemmas.threshold.Settings.{Grows, entry_stays, longer}
use Rattle.pix_table.specs.threshold.ColorBlocks.{AreBlocks, IsBlock, channels_at}
use Rattle.pix_table.specs.declared.threshold.color_block.ColorBlock.{ColorBlock}
use Rattle.pix_palette.specs.Finder.{cell, place, place_at, IsLatest, AreLists, IsNowhere, Follows}
use Rattle.pix_palette.specs.declared.palette.finder.Finder.{Finder}

-- colors that do not differ have one place
same_channel : (x y : ℕ) → x - y + (y - x) ≡ 0 → x ≡ y
same_channel x y h = omega arith

same_place : (p q : List ℕ) → color_difference p q ≡ 0 ∷ 0 ∷ 0 ∷ [] → place p ≡ place q
same_place p q h =
    let red : slice_index p 0 ≡ slice_index q 0 = same_channel _ _ (ap (λ l. slice_index l 0) h) in
    let green : slice_index p 1 ≡ slice_index q 1 = same_channel _ _ (ap (λ l. slice_index l 1) h) in
    let blue : slice_index p 2 ≡ slice_index q 2 = same_channel _ _ (ap (λ l. slice_index l 2) h) in
    rw (red, green, blue) refl

-- a color that is the same in each channel does not differ, and one that is not does
pub same_difference : (p q : List ℕ) → same_color p q ≡ true → color_difference p q ≡ 0 ∷ 0 ∷ 0 ∷ []
same_difference p q h =
    let red : slice_index p 0 - slice_index q 0 + (slice_index q 0 - slice_index p 0) ≡ 0 = grind (arith, nat_tests) in
    let green : slice_index p 1 - slice_index q 1 + (slice_index q 1 - slice_index p 1) ≡ 0 = grind (arith, nat_tests) in
    let blue : slice_index p 2 - slice_index q 2 + (slice_index q 2 - slice_index p 2) ≡ 0 = grind (arith, nat_tests) in
    rw (red, green, blue) refl

pub other_difference : (p q : List ℕ) → same_color p q ≡ false → color_difference p q ≢ 0 ∷ 0 ∷ 0 ∷ []
other_difference p q h = λ e.
    let red : slice_index p 0 ≡ slice_index q 0 = same_channel _ _ (ap (λ l. slice_index l 0) e) in
    let green : slice_index p 1 ≡ slice_index q 1 = same_channel _ _ (ap (λ l. slice_index l 1) e) in
    let blue : slice_index p 2 ≡ slice_index q 2 = same_channel _ _ (ap (λ l. slice_index l 2) e) in
    let same : same_color p q ≡ true = grind (arith, nat_tests) in
    true≢false (sym same ∙ h)

-- the tests of three channels, of which the last two are taken together
tests_regrouped : (a b c : Bool) → ((a && b) && c) ≡ (a && (b && c))
tests_regrouped true b c = refl
tests_regrouped false b c = refl

pub same_by : (x y z a b c : ℕ) (same : Bool) → (nat_eq x a && (nat_eq y b && nat_eq z c)) ≡ same → same_color (x ∷ y ∷ z ∷ []) (a ∷ b ∷ c ∷ []) ≡ same
same_by x y z a b c same e = tests_regrouped (nat_eq x a) (nat_eq y b) (nat_eq z c) ∙ e

-- of the entries from k on and before n, the first that is the color
abbrev pub IsFoundFrom : List (List ℕ) → List ℕ → ℕ → ℕ → Option ℕ → Type 0
IsFoundFrom colors color k n None = (i : ℕ) → k ≤ i → i < n → difference_to colors color i ≢ 0 ∷ 0 ∷ 0 ∷ []
IsFoundFrom colors color k n (Some f) = (k ≤ f) × (f < n) × (difference_to colors color f ≡ 0 ∷ 0 ∷ 0 ∷ [])
    × ((i : ℕ) → k ≤ i → i < f → difference_to colors color i ≢ 0 ∷ 0 ∷ 0 ∷ [])

module _ (colors : List (List ℕ)) (color : List ℕ) where
  -- no entry is the color from the latest one on that has its place
  none_placed : (h n k : ℕ) → h ≡ place color → IsLatest place colors h n k → (i : ℕ) → k ≤ i → i < n → difference_to colors color i ≢ 0 ∷ 0 ∷ 0 ∷ []
  none_placed h n k e latest i from below = λ z. latest.none i from below (same_place (slice_index_or colors i []) color z ∙ sym e)

  pub found_first : (h n k : ℕ) → h ≡ place color → IsLatest place colors h n k → IsFoundFrom colors color k n None
  found_first h n k e latest = none_placed h n k e latest

  -- the entry before number k is the color
  pub found_here : (k e n : ℕ) → 0 < k → k ≤ n → place_at place colors (k - 1) ≡ place color → IsLatest place colors (place_at place colors (k - 1)) (k - 1) e
      → difference_to colors color (k - 1) ≡ 0 ∷ 0 ∷ 0 ∷ [] → IsFoundFrom colors color e n (Some (k - 1))
  found_here k e n some within placed latest same =
      (latest.within, omega arith, same, none_placed (place_at place colors (k - 1)) (k - 1) e placed latest)

  none_before : (k e : ℕ) → 0 < k → place_at place colors (k - 1) ≡ place color → IsLatest place colors (place_at place colors (k - 1)) (k - 1) e
      → difference_to colors color (k - 1) ≢ 0 ∷ 0 ∷ 0 ∷ [] → (i : ℕ) → e ≤ i → i < k → difference_to colors color i ≢ 0 ∷ 0 ∷ 0 ∷ []
  none_before k e some placed latest other i from below = elim (cases_lt i (k - 1)) [
    | inl b ↦ none_placed (place_at place colors (k - 1)) (k - 1) e placed latest i from b
    | inr b ↦ let same : k - 1 ≡ i = omega arith in subst (λ j. difference_to colors color j ≢ 0 ∷ 0 ∷ 0 ∷ []) same other
  ]

  -- it is not
  pub found_elsewhere : (k e n : ℕ) (found : Option ℕ) → 0 < k → k ≤ n → place_at place colors (k - 1) ≡ place color → IsLatest place colors (place_at place colors (k - 1)) (k - 1) e
      → difference_to colors color (k - 1) ≢ 0 ∷ 0 ∷ 0 ∷ [] → IsFoundFrom colors color k n found → IsFoundFrom colors color e n found
  found_elsewhere k e n None some within placed latest other h = λ i from below. elim (cases_lt i k) [
    | inl b ↦ none_before k e some placed latest other i from b
    | inr b ↦ h i b below
  ]
  found_elsewhere k e n (Some f) some within placed latest other h = (
    (let a : e ≤ k - 1 = latest.within in let b : k ≤ f = h.0 in omega arith),
    h.1,
    h.2,
    λ i from below. elim (cases_lt i k) [
      | inl b ↦ none_before k e some placed latest other i from b
      | inr b ↦ h.3 i b below
    ],
  )

  -- all entries have been looked at
  pub found_of_all : (n k : ℕ) (found : Option ℕ) → n ≡ length colors → k ≡ 0 → IsFoundFrom colors color k n found → MatchOption found (IsNowhere colors color) (IsFirstOf colors color)
  found_of_all n k None e z h = λ i below. h i (omega arith) (omega arith)
  found_of_all n k (Some f) e z h = record {
    stands = (let b : f < n = h.1 in omega arith);
    same = h.2;
    first = λ i below. h.3 i (omega arith) below;
  }

-- no color has a place yet
none_yet : (placing : List ℕ → ℕ) (colors : List (List ℕ)) (h n : ℕ) → n ≡ 0 → IsLatest placing colors h n 0
none_yet placing colors h n e = record { within = omega arith; placed = λ some. absurd (omega arith); none = λ i from below. absurd (omega arith) }

-- places that are made have no entry
pub places_made : (placing : List ℕ → ℕ) (colors : List (List ℕ)) (made earlier : List ℕ) → made ≡ replicate 16384 0 → length earlier ≡ 0 → AreLists placing colors made earlier
places_made placing colors made earlier e none =
    let long : length made ≡ 16384 = ap length e ∙ length-replicate {A = ℕ} 16384 0 in
    record {
      made = inl long;
      within = omega arith;
      last = λ g d below.
          let zero_there : get_or made g d ≡ 0 = ap (λ l. get_or l g d) e ∙ get_or-replicate 16384 g 0 d (omega (arith, long)) in
          subst (IsLatest placing colors g (length earlier)) (sym zero_there) (none_yet placing colors g (length earlier) none);
      before = λ i d below. absurd (omega arith);
    }

-- one more color leaves the latest of another place
latest_stays : (placing : List ℕ → ℕ) (colors : List (List ℕ)) (g h n k : ℕ) → place_at placing colors n ≡ h → g ≢ h → IsLatest placing colors g n k → IsLatest placing colors g (n + 1) k
latest_stays placing colors g h n k at other latest = record {
  within = (let w : k ≤ n = latest.within in omega arith);
  placed = latest.placed;
  none = λ i from below. elim (cases_lt i n) [
    | inl b ↦ latest.none i from b
    | inr b ↦ let same : n ≡ i = omega arith in subst (λ j. place_at placing colors j ≢ g) same (λ e. other (sym e ∙ at))
  ];
}

-- and is the latest of its own
latest_now : (placing : List ℕ → ℕ) (colors : List (List ℕ)) (h n : ℕ) → place_at placing colors n ≡ h → IsLatest placing colors h (n + 1) (n + 1)
latest_now placing colors h n at = record {
  within = omega arith;
  placed = λ some. (let same : n ≡ n + 1 - 1 = omega arith in subst (λ j. place_at placing colors j ≡ h) same at);
  none = λ i from below. absurd (omega arith);
}

module _ (placing : List ℕ → ℕ) (colors : List (List ℕ)) (latest earlier : List ℕ) (h before : ℕ) (f : AreLists placing colors latest earlier) (long : length latest ≡ 16384)
    (inside : length earlier < length colors) (at : place_at placing colors (length earlier) ≡ h) (below_h : h < 16384) (is : before ≡ get_or latest h before) where
  added_last : (g d : ℕ) → g < length (set latest h (length earlier + 1)) → IsLatest placing colors g (length earlier + 1) (get_or (set latest h (length earlier + 1)) g d)
  added_last g d below = elim (cases_eq g h) [
    | inl same ↦
        let here : get_or (set latest h (length earlier + 1)) g d ≡ length earlier + 1 =
        ap (λ j. get_or (set latest h (length earlier + 1)) j d) same ∙ get_or-set_same latest h (length earlier + 1) d (omega arith) in
        subst (IsLatest placing colors g (length earlier + 1)) (sym here) (latest_now placing colors g (length earlier) (at ∙ sym same))
    | inr other ↦
        let there : get_or (set latest h (length earlier + 1)) g d ≡ get_or latest g d = get_or-set_other latest h g (length earlier + 1) d other in
        subst (IsLatest placing colors g (length earlier + 1)) (sym there)
        (latest_stays placing colors g h (length earlier) (get_or latest g d) at other (f.last g d (omega (arith, length-set latest h (length earlier + 1)))))
  ]

  added_before : (i d : ℕ) → i < length (earlier ++ before ∷ []) → IsLatest placing colors (place_at placing colors i) i (get_or (earlier ++ before ∷ []) i d)
  added_before i d below = elim (cases_lt i (length earlier)) [
    | inl b ↦ subst (IsLatest placing colors (place_at placing colors i) i) (sym (get_or_append_left earlier (before ∷ []) d i b)) (f.before i d b)
    | inr b ↦
        let same : length earlier ≡ i = (let n : length (earlier ++ before ∷ []) ≡ length earlier + 1 = length-append earlier (before ∷ []) in omega arith) in
        let there : get_or (earlier ++ before ∷ []) i d ≡ before =
        ap (λ j. get_or (earlier ++ before ∷ []) j d) (sym same) ∙ get_or-append_seam earlier before [] d in
        let was : IsLatest placing colors h (length earlier) before =
        subst (IsLatest placing colors h (length earlier)) (sym is) (f.last h before (omega arith)) in
        subst (IsLatest placing colors (place_at placing colors i) i) (sym there)
        (subst (λ j. IsLatest placing colors (place_at placing colors j) j before) same (subst (λ g. IsLatest placing colors g (length earlier) before) (sym at) was))
  ]

  -- a color is added
  pub color_added : AreLists placing colors (set latest h (length earlier + 1)) (earlier ++ before ∷ [])
  color_added =
      let more : length (earlier ++ before ∷ []) ≡ length earlier + 1 = length-append earlier (before ∷ []) in
      record {
        made = inl (length-set latest h (length earlier + 1) ∙ long);
        within = omega arith;
        last = λ g d below. subst (λ n. IsLatest placing colors g n (get_or (set latest h (length earlier + 1)) g d)) (sym more) (added_last g d below);
        before = added_before;
      }

-- what is known of entries stays while colors are appended
module _ {C : Type 0} (read : C → List ℕ) (old new : List C) (g : Grows old new) where
  place_stays : (placing : List ℕ → ℕ) (i : ℕ) → i < length (map read old) → place_at placing (map read new) i ≡ place_at placing (map read old) i
  place_stays placing i below = ap placing (entry_stays read old new i g below)

  latest_grows : (placing : List ℕ → ℕ) (h n k : ℕ) → n ≤ length (map read old) → IsLatest placing (map read old) h n k → IsLatest placing (map read new) h n k
  latest_grows placing h n k within latest = record {
    within = latest.within;
    placed = λ some. place_stays placing (k - 1) (let w : k ≤ n = latest.within in omega arith) ∙ latest.placed some;
    none = λ i from below. λ e. latest.none i from below (sym (place_stays placing i (omega arith)) ∙ e);
  }

  pub lists_grow : (placing : List ℕ → ℕ) (latest earlier : List ℕ) → AreLists placing (map read old) latest earlier → AreLists placing (map read new) latest earlier
  lists_grow placing latest earlier h =
      let within : length earlier ≤ length (map read old) = h.within in
      record {
        made = h.made;
        within = (let more : length (map read old) ≤ length (map read new) = longer read old new g in omega arith);
        last = λ p d below. latest_grows placing p (length earlier) (get_or latest p d) within (h.last p d below);
        before = λ i d below.
            subst (λ p. IsLatest placing (map read new) p i (get_or earlier i d)) (sym (place_stays placing i (omega arith)))
            (latest_grows placing (place_at placing (map read old) i) i (get_or earlier i d) (omega arith) (h.before i d below));
      }

  channels_stay : (i : ℕ) → i < length (map read old) → channels_at (map read new) i ≡ channels_at (map read old) i
  channels_stay i below = ap (λ p. slice_index p 0 ∷ slice_index p 1 ∷ slice_index p 2 ∷ []) (entry_stays read old new i g below)

  blocks_grow : (blocks : List ColorBlock) → AreBlocks (map read old) blocks → AreBlocks (map read new) blocks
  blocks_grow blocks h = λ k d below.
      let block : IsBlock (map read old) (16 * k) (slice_index_or blocks k d) = h k d below in
      let within : 16 * k + 16 ≤ length (map read old) = block.within in
      record {
        within = (let more : length (map read old) ≤ length (map read new) = longer read old new g in omega arith);
        each = λ i inside. block.each i inside ∙ sym (channels_stay (16 * k + i) (omega arith));
      }

  pub follows_grown : (finder : Finder) → Follows (map read old) finder → Follows (map read new) finder
  follows_grown finder h = record {
    places = lists_grow place finder.lists.latest.items finder.lists.earlier.items h.places;
    near = record {
      cells = lists_grow cell finder.near.cells.latest.items finder.near.cells.earlier.items h.near.cells;
      blocks = record { blocks = blocks_grow finder.near.blocks.blocks.items h.near.blocks.blocks; spans = h.near.blocks.spans };
    };
  }
