-- Seen colors that stand once: the sums of each value of a channel, one color after the other.
use Rattle.std.proofs.Common.{◌≡◌, ℕ, ◌+◌, ◌*◌, ◌<◌, Bool, true, List, [], ◌∷◌, ◌++◌, length, length-take, map, take, get_or, set, All, arith, refl, sym, ap, ◌∙◌, subst, eq-eqb}
use Rattle.std.proofs.lemmas.List.{get_or-map, get_or_append_left, length-map}
use Rattle.pix_table.specs.quantization.BestPlaces.{is_at}
use Rattle.pix_table.specs.quantization.Items.{spread}
use Rattle.pix_table.specs.SeenPixels.{AreSeen, seen_numbers}
use Rattle.pix_table.specs.quantization.SeenSums.{AreSeenByValue, AreSeenSums, IsSummed}
use Rattle.pix_table.specs.declared.rgba.color.SeenColor.{SeenColor}
use Rattle.pix_table.specs.declared.rgba.sums.SeenSums.{SeenSums}
use Rattle.pix_table.proofs.lemmas.quantization.BoxSpans.{map_more}
use Rattle.pix_table.proofs.lemmas.quantization.SeenItems.{item_values_more, sums_alone}
use Rattle.pix_table.proofs.lemmas.quantization.SeenSumLemmas.{first_seen}
use Rattle.pix_table.proofs.lemmas.quantization.Singles.{spread_singles}

-- a color as an item, and the colors of that
alone : (c : SeenColor) → spread 4 ((seen_numbers c ++ 1 ∷ []) ∷ []) ≡ seen_numbers c ∷ []
alone c = spread_singles seen_numbers 4 (λ x. refl) (c ∷ [])

-- the sums of one color, where it passes
pub color_alone : (p : List ℕ → Bool) (c : SeenColor) (sums : SeenSums) → p (seen_numbers c) ≡ true → sums.count ≡ 1 → sums.red ≡ 1 * c.red
    → sums.green ≡ 1 * c.green → sums.blue ≡ 1 * c.blue → sums.alpha ≡ 1 * c.alpha → AreSeenSums p (seen_numbers c ∷ []) sums
color_alone p c sums here count red green blue alpha =
    subst (λ l. AreSeenSums p l sums) (alone c) (sums_alone p (seen_numbers c ++ 1 ∷ []) c 1 sums refl here count red green blue alpha)

-- a color has its value in a channel
pub color_at : (k v : ℕ) (c : SeenColor) → v ≡ get_or (seen_numbers c) k 0 → is_at k v (seen_numbers c) ≡ true
color_at k v c e = eq-eqb (get_or (seen_numbers c) k 0) v (sym e)

-- the sums of each value of a channel, with a color more
pub color_values_more : {S : Type 0} (whole : S → SeenSums) (k v : ℕ) (box : List (List ℕ)) (c : SeenColor) (parts : List S) (old part new : S) → k < 4
    → AreSeenByValue k box (map whole parts) → v ≡ get_or (seen_numbers c) k 0 → v < 256 → old ≡ get_or parts v old
    → (whole part).count ≡ 1 → (whole part).red ≡ 1 * c.red → (whole part).green ≡ 1 * c.green → (whole part).blue ≡ 1 * c.blue
    → (whole part).alpha ≡ 1 * c.alpha
    → (whole new).count ≡ (whole old).count + (whole part).count → (whole new).red ≡ (whole old).red + (whole part).red
    → (whole new).green ≡ (whole old).green + (whole part).green → (whole new).blue ≡ (whole old).blue + (whole part).blue
    → (whole new).alpha ≡ (whole old).alpha + (whole part).alpha
    → AreSeenByValue k (box ++ seen_numbers c ∷ []) (map whole (set parts v new))
color_values_more whole k v box c parts old part new channel h is small there one red green blue alpha count_new red_new green_new blue_new alpha_new =
    subst (λ l. AreSeenByValue k (box ++ l) (map whole (set parts v new))) (alone c)
    (item_values_more whole k v box (seen_numbers c ++ 1 ∷ []) parts old part new channel h
    (is ∙ sym (get_or_append_left (seen_numbers c) (1 ∷ []) 0 k channel)) small there
    (λ p here. sums_alone p (seen_numbers c ++ 1 ∷ []) c 1 (whole part) refl here one red green blue alpha)
    count_new red_new green_new blue_new alpha_new)

-- the sums of a box of colors
pub colors_summed : (xs : List SeenColor) (all : SeenSums) → 0 < length xs → length xs < 18446744073709551616 → All AreSeen (map seen_numbers xs)
    → AreSeenSums (λ c. true) (map seen_numbers xs) all → (k : ℕ) (parts : List SeenSums) → AreSeenByValue k (map seen_numbers xs) parts
    → IsSummed k (map seen_numbers xs) parts all
colors_summed xs all some few seen whole k parts values = record {
  some = omega (arith, some, length-map xs seen_numbers);
  few = omega (arith, few, length-map xs seen_numbers);
  seen = seen;
  values = values;
  whole = whole;
}

-- one color more of some
module _ (xs : List SeenColor) (i : ℕ) (x : SeenColor) (inside : i < length xs) (read : x ≡ get_or xs i x) where
  pub next_color : All AreSeen (map seen_numbers xs) → AreSeen (seen_numbers x)
  next_color h =
      subst AreSeen (get_or-map seen_numbers xs i x (seen_numbers x) inside ∙ ap seen_numbers (sym read))
      (h i (seen_numbers x) (omega (arith, inside, length-map xs seen_numbers)))

  -- the sums of each value of a channel, to which a color is added
  pub added_color : (k : ℕ) (parts : List SeenSums) (most : ℕ) → All AreSeen (map seen_numbers xs) → length xs < most
      → AreSeenByValue k (map seen_numbers (take i xs)) parts
      → (box : List (List ℕ)) × All AreSeen box × AreSeenByValue k box parts × (length box + 1 < most)
  added_color k parts most seen few h = (
    map seen_numbers (take i xs),
    first_seen xs i seen,
    h,
    omega (arith, few, inside, length-map (take i xs) seen_numbers, length-take i xs),
  )

  -- the sums of each value of a channel of one color more
  pub color_next : (k : ℕ) (parts : List SeenSums) → AreSeenByValue k (map seen_numbers (take i xs) ++ seen_numbers x ∷ []) parts
      → AreSeenByValue k (map seen_numbers (take (i + 1) xs)) parts
  color_next k parts h = subst (λ l. AreSeenByValue k l parts) (sym (map_more seen_numbers xs i x inside read)) h
