-- The sums of the colors of each entry, as a round takes them of items. No clause of a public call cites this file.
use Rattle.std.specs.Prelude.{◌≡◌, ℕ, ◌+◌, ◌*◌, ◌/◌, ◌<◌, ◌≤◌, Bool, List, [], ◌∷◌, length, cond, nat_eq, slice_index, slice_index_or}
use Rattle.pix_table.specs.matching.Nearest.{IsNearest}
use Rattle.pix_table.specs.quantization.Items.{item_sum}
use Rattle.pix_table.specs.declared.quantization.box_sums.Sums.{Sums}
use Rattle.pix_table.specs.declared.quantization.sums64.Sums64.{Sums64}

-- the sums of those colors of the first n items that pass a test
pub record AreItemSums (p : List ℕ → Bool) (items : List (List ℕ)) (pairs n : ℕ) (sums : Sums) : Type 0 where
  pub count : sums.count ≡ item_sum (λ color. cond (p color) 1 0) items pairs n
  pub red : sums.red ≡ item_sum (λ color. cond (p color) (slice_index color 0) 0) items pairs n
  pub green : sums.green ≡ item_sum (λ color. cond (p color) (slice_index color 1) 0) items pairs n
  pub blue : sums.blue ≡ item_sum (λ color. cond (p color) (slice_index color 2) 0) items pairs n

-- sums may be those of bytes
pub record AreOfBytes (sums : Sums) : Type 0 where
  pub red : sums.red ≤ 255 * sums.count
  pub green : sums.green ≤ 255 * sums.count
  pub blue : sums.blue ≤ 255 * sums.count

-- the same of sums of 64 bits
pub record AreOfFewBytes (few : Sums64) : Type 0 where
  pub red : few.red ≤ 255 * few.count
  pub green : few.green ≤ 255 * few.count
  pub blue : few.blue ≤ 255 * few.count

-- sums of any number of colors, and such of 64 bits, are together some others
pub record IsTogether (sums : Sums) (few : Sums64) (all : Sums) : Type 0 where
  pub count : all.count ≡ sums.count + few.count
  pub red : all.red ≡ sums.red + few.red
  pub green : all.green ≡ sums.green + few.green
  pub blue : all.blue ≡ sums.blue + few.blue

-- for each entry the sums of those colors of the first n items to which it is the nearest, the first of equals
pub record AreItemGroups (entries items : List (List ℕ)) (pairs n : ℕ) (sums : List Sums) : Type 0 where
  pub bytes : (k : ℕ) (d : Sums) → k < length entries → AreOfBytes (slice_index_or sums k d)
  pub parts : (at : List ℕ → ℕ) → ((color : List ℕ) → IsNearest entries color (at color)) → (k : ℕ) (d : Sums) → k < length entries
      → AreItemSums (λ color. nat_eq (at color) k) items pairs n (slice_index_or sums k d)

-- the mean of some colors by their sums
abbrev pub mean_by : Sums → List ℕ
mean_by sums =
    (2 * sums.red + sums.count) / (2 * sums.count) ∷ (2 * sums.green + sums.count) / (2 * sums.count)
    ∷ (2 * sums.blue + sums.count) / (2 * sums.count) ∷ []

-- an entry after a round: the mean of its colors, or itself where it has none
abbrev pub settled : Sums → List ℕ → List ℕ
settled sums entry = cond (nat_eq sums.count 0) entry (mean_by sums)
