-- The sums of the seen colors of each entry, as a round takes them. No clause of a public call cites this file.
use Rattle.std.specs.Prelude.{◌≡◌, ℕ, ◌+◌, ◌*◌, ◌/◌, ◌%◌, ◌<◌, Bool, List, [], ◌∷◌, cond, length, slice_index, slice_index_or, filter, nat_eq, All}
use Rattle.pix_table.specs.quantization.Items.{item_sum}
use Rattle.pix_table.specs.matching.Nearest.{IsNearestBy}
use Rattle.pix_table.specs.quantization.Places.{sum_in}
use Rattle.pix_table.specs.SeenPixels.{AreSeen, seen_distance}
use Rattle.pix_table.specs.quantization.SeenSums.{AreFew}
use Rattle.pix_table.specs.declared.rgba.sums.SeenSums.{SeenSums}

-- how many seen colors a group has, and the sums of their numbers
pub record AreGroupSums (group : List (List ℕ)) (sums : SeenSums) : Type 0 where
  pub seen : All AreSeen group
  pub count : sums.count ≡ length group
  pub red : sums.red ≡ sum_in 0 group
  pub green : sums.green ≡ sum_in 1 group
  pub blue : sums.blue ≡ sum_in 2 group
  pub alpha : sums.alpha ≡ sum_in 3 group

-- for each entry what holds of the colors to which it is the nearest, the first of equals
pub record AreSeenParts {S : Type 0} (holds : (List ℕ → Bool) → S → Type 0) (entries : List (List ℕ)) (sums : List S) : Type 0 where
  pub many : length sums ≡ length entries
  pub parts : (at : List ℕ → ℕ) → ((color : List ℕ) → IsNearestBy seen_distance entries color (at color)) → (k : ℕ) (d : S) → k < length entries
      → holds (λ color. nat_eq (at color) k) (slice_index_or sums k d)

-- what are the sums of the colors of each entry, whatever is summed
abbrev pub AreSeenGrouped : {S : Type 0} (are : List (List ℕ) → S → Type 0) (entries colors : List (List ℕ)) (sums : List S) → Type 0
AreSeenGrouped are entries colors sums = AreSeenParts (λ p s. are (filter p colors) s) entries sums

-- the numbers of the seen color of a key
abbrev pub seen_key_numbers : ℕ → List ℕ
seen_key_numbers key = key / 16777216 ∷ key / 65536 % 256 ∷ key / 256 % 256 ∷ key % 256 ∷ []

-- the sums of those colors of the first n items that pass a test
pub record AreSeenItemSums (p : List ℕ → Bool) (items : List (List ℕ)) (pairs n : ℕ) (sums : SeenSums) : Type 0 where
  pub few : AreFew sums
  pub count : sums.count ≡ item_sum (λ color. cond (p color) 1 0) items pairs n
  pub red : sums.red ≡ item_sum (λ color. cond (p color) (slice_index color 0) 0) items pairs n
  pub green : sums.green ≡ item_sum (λ color. cond (p color) (slice_index color 1) 0) items pairs n
  pub blue : sums.blue ≡ item_sum (λ color. cond (p color) (slice_index color 2) 0) items pairs n
  pub alpha : sums.alpha ≡ item_sum (λ color. cond (p color) (slice_index color 3) 0) items pairs n

-- for each entry the sums of those colors of the first n items to which it is the nearest, the first of equals
abbrev pub AreSeenItemGroups : (entries items : List (List ℕ)) (pairs n : ℕ) (sums : List SeenSums) → Type 0
AreSeenItemGroups entries items pairs n sums = AreSeenParts (λ p s. AreSeenItemSums p items pairs n s) entries sums

-- the products of the numbers of two colors over black and over white, added: of each red, green and blue, and what white adds to them
abbrev pub product_by : (r g b w s t u v : ℕ) → ℕ
product_by r g b w s t u v = r * s + g * t + b * u + (r + w) * (s + v) + (g + w) * (t + v) + (b + w) * (u + v)
