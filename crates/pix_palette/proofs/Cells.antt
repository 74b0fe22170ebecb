-- Entries near a color, by the cells of the entries.
use Rattle.std.specs.Prelude.{◌/◌, slice_index, slice_index_or, min}
use Rattle.std.proofs.Common.{◌≡◌, ◌≢◌, ℕ, ◌+◌, ◌-◌, ◌*◌, ◌<◌, ◌≤◌, Bool, true, false, List, [], ◌∷◌, length, arith, sym, ap, ◌∙◌, subst, ◌⊎◌, inl, inr}
use Rattle.std.proofs.lemmas.Bool.{cases_lt, cases_Bool}
use Rattle.std.proofs.lemmas.Bool.Decides.{nat_tests}
use Rattle.pix_table.specs.threshold.ColorBlocks.{IsBest, Lies}
use Rattle.pix_table.specs.threshold.PaletteMatch.{color_difference, difference_to, is_within}
use Rattle.pix_table.proofs.lemmas.threshold.PaletteMatches.{all_far}
use Rattle.pix_palette.specs.Finder.{AreFar, IsLatest, cell, place_at, steps}

module _ (colors : List (List ℕ)) (color least : List ℕ) where
  -- of the entries from one on and before another, those of a cell are far
  abbrev pub AreFarIn : (h from to : ℕ) → Type 0
  AreFarIn h from to = AreFar colors color least from to (λ entry. cell entry ≡ h)

  pub cell_begun : (h n k to : ℕ) → IsLatest cell colors h n k → to ≤ n → AreFarIn h k to
  cell_begun h n k to latest within = λ i from below here. absurd (latest.none i from (omega arith) here)

  -- one that is near is the first
  pub cell_near : (h at e found : ℕ) → place_at cell colors (at - 1) ≡ h → IsLatest cell colors (place_at cell colors (at - 1)) (at - 1) e
      → AreFarIn h e (min found (at - 1))
  cell_near h at e found placed latest = λ i from below here. absurd (latest.none i from (omega arith) (here ∙ sym placed))

  -- one that is far is passed over
  pub cell_far : (h at e found : ℕ) → 0 < at → place_at cell colors (at - 1) ≡ h → IsLatest cell colors (place_at cell colors (at - 1)) (at - 1) e
      → is_within (difference_to colors color (at - 1)) least ≡ false → AreFarIn h at found → AreFarIn h e found
  cell_far h at e found some placed latest far rest = λ i from below here. elim (cases_lt i (at - 1)) [
    | inl before ↦ absurd (latest.none i from before (here ∙ sym placed))
    | inr after ↦ elim (cases_lt i at) [
      | inl now ↦ let same : at - 1 ≡ i = omega arith in subst (λ j. is_within (difference_to colors color j) least ≡ false) same far
      | inr later ↦ rest i later below here
    ]
  ]

  -- those for which one or the other holds are far, where both are
  pub both_far : (from found result : ℕ) (one other all : List ℕ → Type 0) → AreFar colors color least from found one → AreFar colors color least from result other
      → result ≤ found → ((entry : List ℕ) → all entry → one entry ⊎ other entry) → AreFar colors color least from result all
  both_far from found result one other all h k within either = λ i after below is. elim (either (slice_index_or colors i []) is) [
    | inl first ↦ h i after (omega arith) first
    | inr second ↦ k i after below second
  ]

  -- fewer of them are
  pub fewer_far : (from found : ℕ) (one all : List ℕ → Type 0) → AreFar colors color least from found one → ((entry : List ℕ) → all entry → one entry)
      → AreFar colors color least from found all
  fewer_far from found one all h weaker = λ i after below is. h i after below (weaker (slice_index_or colors i []) is)

  -- none is near where all of the cells about the color are far
  pub none_near : (from found : ℕ) (about : List ℕ → Type 0) → ((entry : List ℕ) → is_within (color_difference entry color) least ≡ true → about entry)
      → AreFar colors color least from found about → (k : ℕ) → from ≤ k → k < found → is_within (difference_to colors color k) least ≡ false
  none_near from found about near h k after below = elim (cases_Bool (is_within (difference_to colors color k) least)) [
    | inl is ↦ h k after below (near (slice_index_or colors k []) is)
    | inr other ↦ other
  ]

-- what differs by no more than so much lies in the steps about a number
low_8 : (x c l : ℕ) → c ≤ 255 → x - c + (c - x) ≤ l → (c - l) / 8 ≤ min (x / 8) 31
low_8 x c l byte h = omega arith

high_8 : (x c l : ℕ) → x - c + (c - x) ≤ l → min (x / 8) 31 ≤ min (c + l) 255 / 8
high_8 x c l h = omega arith

low_16 : (x c l : ℕ) → c ≤ 255 → x - c + (c - x) ≤ l → (c - l) / 16 ≤ min (x / 16) 15
low_16 x c l byte h = omega arith

high_16 : (x c l : ℕ) → x - c + (c - x) ≤ l → min (x / 16) 15 ≤ min (c + l) 255 / 16
high_16 x c l h = omega arith

-- what is within a difference is no farther in each channel
within_red : (x y z a b c : ℕ) → is_within (x ∷ y ∷ z ∷ []) (a ∷ b ∷ c ∷ []) ≡ true → x ≤ a
within_red x y z a b c h = grind (arith, nat_tests)

within_green : (x y z a b c : ℕ) → is_within (x ∷ y ∷ z ∷ []) (a ∷ b ∷ c ∷ []) ≡ true → y ≤ b
within_green x y z a b c h = grind (arith, nat_tests)

within_blue : (x y z a b c : ℕ) → is_within (x ∷ y ∷ z ∷ []) (a ∷ b ∷ c ∷ []) ≡ true → z ≤ c
within_blue x y z a b c h = grind (arith, nat_tests)

pub lies_about : (entry : List ℕ) (r g b x y z : ℕ) → r ≤ 255 → g ≤ 255 → b ≤ 255 → is_within (color_difference entry (r ∷ g ∷ b ∷ [])) (x ∷ y ∷ z ∷ []) ≡ true
    → Lies ((r - x) / 8 ∷ (g - y) / 8 ∷ (b - z) / 16 ∷ []) (min (r + x) 255 / 8 ∷ min (g + y) 255 / 8 ∷ min (b + z) 255 / 16 ∷ []) (steps entry)
lies_about entry r g b x y z red green blue h =
    let reds = within_red _ _ _ x y z h in
    let greens = within_green _ _ _ x y z h in
    let blues = within_blue _ _ _ x y z h in
    record {
      red_low = low_8 _ r x red reds;
      red_high = high_8 _ r x reds;
      green_low = low_8 _ g y green greens;
      green_high = high_8 _ g y greens;
      blue_low = low_16 _ b z blue blues;
      blue_high = high_16 _ b z blues;
    }

-- the cells of a red and a green whose blue comes before one more
pub next_blue : (red green blue : ℕ) (low high entry : List ℕ) → Lies low high (steps entry) → slice_index low 0 ≡ red → slice_index high 0 ≡ red
    → slice_index low 1 ≡ green → slice_index high 1 ≡ green → slice_index (steps entry) 2 < blue + 1
    → (Lies low high (steps entry) × (slice_index (steps entry) 2 < blue)) ⊎ (cell entry ≡ red * 512 + green * 16 + blue)
next_blue red green blue low high entry lies a b c d below = elim (cases_lt (slice_index (steps entry) 2) blue) [
  | inl before ↦ inl (lies, before)
  | inr after ↦
      let is_blue : slice_index (steps entry) 2 ≡ blue = omega arith in
      let is_red : slice_index (steps entry) 0 ≡ red = omega (arith, lies.red_low, lies.red_high) in
      let is_green : slice_index (steps entry) 1 ≡ green = omega (arith, lies.green_low, lies.green_high) in
      inr (omega (arith, is_blue, is_red, is_green))
]

-- the cells of a red whose green comes before one more
pub next_green : (red green : ℕ) (low high entry : List ℕ) → Lies (red ∷ slice_index low 1 ∷ slice_index low 2 ∷ []) (red ∷ slice_index high 1 ∷ slice_index high 2 ∷ []) (steps entry)
    → slice_index (steps entry) 1 < green + 1
    → (Lies (red ∷ slice_index low 1 ∷ slice_index low 2 ∷ []) (red ∷ slice_index high 1 ∷ slice_index high 2 ∷ []) (steps entry) × (slice_index (steps entry) 1 < green))
    ⊎ Lies (red ∷ green ∷ slice_index low 2 ∷ []) (red ∷ green ∷ slice_index high 2 ∷ []) (steps entry)
next_green red green low high entry lies below = elim (cases_lt (slice_index (steps entry) 1) green) [
  | inl before ↦ inl (lies, before)
  | inr after ↦
      let is_green : slice_index (steps entry) 1 ≡ green = omega arith in
      inr (record {
        red_low = lies.red_low;
        red_high = lies.red_high;
        green_low = omega (arith, is_green);
        green_high = omega (arith, is_green);
        blue_low = lies.blue_low;
        blue_high = lies.blue_high;
      })
]

-- the cells whose red comes before one more
pub next_red : (red : ℕ) (low high entry : List ℕ) → Lies low high (steps entry) → slice_index (steps entry) 0 < red + 1
    → (Lies low high (steps entry) × (slice_index (steps entry) 0 < red))
    ⊎ Lies (red ∷ slice_index low 1 ∷ slice_index low 2 ∷ []) (red ∷ slice_index high 1 ∷ slice_index high 2 ∷ []) (steps entry)
next_red red low high entry lies below = elim (cases_lt (slice_index (steps entry) 0) red) [
  | inl before ↦ inl (lies, before)
  | inr after ↦
      let is_red : slice_index (steps entry) 0 ≡ red = omega arith in
      inr (record {
        red_low = omega (arith, is_red);
        red_high = omega (arith, is_red);
        green_low = lies.green_low;
        green_high = lies.green_high;
        blue_low = lies.blue_low;
        blue_high = lies.blue_high;
      })
]

-- entries that are passed over as far leave the last candidate
pub best_passes : (entries : List (List ℕ)) (color : List ℕ) (from to at : ℕ) (least : List ℕ) → IsBest entries color from at least → from ≤ to
    → ((k : ℕ) → from ≤ k → k < to → is_within (difference_to entries color k) least ≡ false) → IsBest entries color to at least
best_passes entries color from to at least h order far =
    let same : from + (to - from) ≡ to = omega arith in
    subst (λ n. IsBest entries color n at least) same (all_far entries color from (to - from) at least h (λ i after below. far i after (omega arith)))
