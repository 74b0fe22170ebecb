-- Blocks of sixteen entries.
use Rattle.std.specs.Prelude.{max, min, ◌/◌}
use Rattle.std.proofs.Common.{◌≡◌, ℕ, ◌+◌, ◌-◌, ◌*◌, ◌<◌, ◌≤◌, false, List, [], ◌∷◌, length, get_or, set, arith, sym, ap, ◌∙◌, subst, inl, inr}
use Rattle.std.proofs.lemmas.Bool.{cases_lt}
use Rattle.std.proofs.lemmas.List.{get_or-set_same, get_or-set_other}
use Rattle.pix_table.specs.threshold.ColorBlocks.{AreBlocks, IsBest, IsBlock, IsFar, Lies, channels_at, channels_in}
use Rattle.pix_table.specs.threshold.PaletteMatch.{color_difference, difference_to, is_within}
use Rattle.pix_table.specs.declared.threshold.color_block.ColorBlock.{ColorBlock}
use Rattle.pix_table.proofs.lemmas.threshold.PaletteMatches.{all_far}

-- a number that is written at i stands there, and the others stay
write_here : (xs : List ℕ) (i j x : ℕ) → i < length xs → i ≡ j → get_or (set xs i x) j 0 ≡ x
write_here xs i j x below e = ap (λ k. get_or (set xs i x) k 0) (sym e) ∙ get_or-set_same xs i x 0 below

write_other : (xs : List ℕ) (i j x : ℕ) → j < i → get_or (set xs i x) j 0 ≡ get_or xs j 0
write_other xs i j x before = get_or-set_other xs i j x 0 (λ e. absurd (omega arith))

-- the channels of one more color are written
pub color_written : (at : ℕ → List ℕ) (red green blue : List ℕ) (i r g b : ℕ) → i < length red → i < length green → i < length blue
    → ((j : ℕ) → j < i → get_or red j 0 ∷ get_or green j 0 ∷ get_or blue j 0 ∷ [] ≡ at j) → r ∷ g ∷ b ∷ [] ≡ at i
    → (j : ℕ) → j < i + 1 → get_or (set red i r) j 0 ∷ get_or (set green i g) j 0 ∷ get_or (set blue i b) j 0 ∷ [] ≡ at j
color_written at red green blue i r g b in_red in_green in_blue h new j below = elim (cases_lt j i) [
  | inl before ↦ rw (write_other red i j r before, write_other green i j g before, write_other blue i j b before) (h j before)
  | inr after ↦
      let e : i ≡ j = omega arith in
      rw (write_here red i j r in_red e, write_here green i j g in_green e, write_here blue i j b in_blue e)
      (subst (λ k. r ∷ g ∷ b ∷ [] ≡ at k) e new)
]

-- the lesser and the greater numbers of two colors
abbrev pub mins : List ℕ → List ℕ → List ℕ
mins p q = min (get_or p 0 0) (get_or q 0 0) ∷ min (get_or p 1 0) (get_or q 1 0) ∷ min (get_or p 2 0) (get_or q 2 0) ∷ []

abbrev pub maxs : List ℕ → List ℕ → List ℕ
maxs p q = max (get_or p 0 0) (get_or q 0 0) ∷ max (get_or p 1 0) (get_or q 1 0) ∷ max (get_or p 2 0) (get_or q 2 0) ∷ []

-- colors lie between the ends of one more color too, and so does that
lies_more : (low high new color : List ℕ) → Lies low high color → Lies (mins low new) (maxs high new) color
lies_more low high new color h = record {
  red_low = omega (arith, h.red_low);
  red_high = omega (arith, h.red_high);
  green_low = omega (arith, h.green_low);
  green_high = omega (arith, h.green_high);
  blue_low = omega (arith, h.blue_low);
  blue_high = omega (arith, h.blue_high);
}

lies_own : (low high color : List ℕ) → Lies (mins low color) (maxs high color) color
lies_own low high color = record {
  red_low = omega arith;
  red_high = omega arith;
  green_low = omega arith;
  green_high = omega arith;
  blue_low = omega arith;
  blue_high = omega arith;
}

pub ends_more : (at : ℕ → List ℕ) (low high color : List ℕ) (i : ℕ) → ((j : ℕ) → j < i → Lies low high (at j)) → color ≡ at i
    → (j : ℕ) → j < i + 1 → Lies (mins low color) (maxs high color) (at j)
ends_more at low high color i h new j below = elim (cases_lt j i) [
  | inl before ↦ lies_more low high color (at j) (h j before)
  | inr after ↦
      let e : i ≡ j = omega arith in
      subst (λ k. Lies (mins low color) (maxs high color) (at k)) e (subst (λ c. Lies (mins low color) (maxs high color) c) new (lies_own low high color))
]

-- a block with no colors, which stands for those behind the last
abbrev pub no_block : ColorBlock
no_block = record { red = []; green = []; blue = [] }

-- an entry is far whose block is
entry_far : (entries : List (List ℕ)) (color : List ℕ) (least : List ℕ) (block : ColorBlock) (k i : ℕ) → IsBlock entries (16 * k) block → IsFar block color least
    → 16 * k ≤ i → i < 16 * k + 16 → is_within (difference_to entries color i) least ≡ false
entry_far entries color least block k i is far after before =
    let place : 16 * k + (i - 16 * k) ≡ i = omega arith in
    let inside : i - 16 * k < 16 = omega arith in
    let same : channels_in block (i - 16 * k) ≡ channels_at entries i = is.each (i - 16 * k) inside ∙ ap (channels_at entries) place in
    subst (λ p. is_within (color_difference p color) least ≡ false) same (far (i - 16 * k) inside)

-- blocks whose colors are all too far leave the last candidate
pub blocks_far : (entries : List (List ℕ)) (color : List ℕ) (from to at : ℕ) (least : List ℕ) (blocks : List ColorBlock) → AreBlocks entries blocks
    → from ≤ to → to ≤ length blocks → IsBest entries color (max (16 * from) 1) at least
    → ((k : ℕ) (d : ColorBlock) → from ≤ k → k < to → IsFar (get_or blocks k d) color least) → IsBest entries color (max (16 * to) 1) at least
blocks_far entries color from to at least blocks are order within h far =
    let start = max (16 * from) 1 in
    let count = max (16 * to) 1 - start in
    let more : start + count ≡ max (16 * to) 1 = omega arith in
    subst (λ n. IsBest entries color n at least) more (all_far entries color start count at least h (λ i after before.
    entry_far entries color least (get_or blocks (i / 16) no_block) (i / 16) i (are (i / 16) no_block (omega arith)) (far (i / 16) no_block (omega arith) (omega arith)) (omega arith) (omega arith)))

-- there are entries for all blocks
pub blocks_fit : (entries : List (List ℕ)) (blocks : List ColorBlock) → AreBlocks entries blocks → 16 * length blocks ≤ length entries
blocks_fit entries [] h = omega arith
blocks_fit entries (block ∷ blocks) h = (let b : 16 * length blocks + 16 ≤ length entries = (h (length blocks) block (omega arith)).within in omega arith)
