-- A table of colors by the cut by squared error: boxes of colors are cut where the squared error falls
-- most (X. Wu, Efficient statistical computations for optimal color quantization, Graphics Gems II,
-- 1991), into more of them than there are entries, and then joined. How many channels the colors have,
-- what a box weighs and what its mean is, are the parameters of what is said of any kind of color.
use Rattle.std.specs.Prelude.{◌⊎◌, ◌≡◌, ℕ, ◌+◌, ◌*◌, ◌/◌, ◌<◌, ◌≤◌, List, [], ◌∷◌, ◌++◌, length, map, min, All}
use Rattle.pix_table.specs.quantization.Places.{IsCutBy, IsBestPlaceBy, CannotBeCutBy, gain_by, sum_in, weight}
use Rattle.pix_table.specs.quantization.Joins.{AreJoinedBy}

-- of a list of boxes the one that is cut next, at its best place: that whose cut gains most, the first
-- of equals
pub record IsNextCutBy (channels : ℕ) (weigh : List (List ℕ) → ℕ) (before : List (List (List ℕ))) (box low high : List (List ℕ))
    (after : List (List (List ℕ))) : Type 0 where
  pub channel : ℕ
  pub value : ℕ
  pub cut : IsCutBy channels box channel value low high
  pub place : IsBestPlaceBy channels weigh box channel value (gain_by weigh box low high)
  pub best : All (λ b. (c v : ℕ) (l h : List (List ℕ)) → IsCutBy channels b c v l h → gain_by weigh b l h ≤ gain_by weigh box low high) after
  pub first : All (λ b. (c v : ℕ) (l h : List (List ℕ)) → IsCutBy channels b c v l h → gain_by weigh b l h < gain_by weigh box low high) before

-- the boxes of a list of colors: all of them in one, or two in the place of the one that is cut next
pub data AreBoxesBy (channels : ℕ) (weigh : List (List ℕ) → ℕ) : List (List ℕ) → List (List (List ℕ)) → Type 0 where
  one : (colors : List (List ℕ)) → 0 < length colors → AreBoxesBy channels weigh colors (colors ∷ [])
  cut : (colors box low high : List (List ℕ)) (before after : List (List (List ℕ)))
      → AreBoxesBy channels weigh colors (before ++ box ∷ after) → IsNextCutBy channels weigh before box low high after
      → AreBoxesBy channels weigh colors (before ++ low ∷ high ∷ after)

-- the mean of a box in a channel, to the nearest whole number, ties up
abbrev pub mean_of : ℕ → List (List ℕ) → ℕ
mean_of channel box = (2 * sum_in channel box + length box) / (2 * length box)

-- the mean of a box
abbrev pub mean : List (List ℕ) → List ℕ
mean box = mean_of 0 box ∷ mean_of 1 box ∷ mean_of 2 box ∷ []

-- how many boxes are cut for so many entries: twice as many, but at most 64 more
abbrev pub more_boxes : ℕ → ℕ
more_boxes room = min (2 * room) (room + 64)

-- the table of a list of colors, of at most so many entries: the means of its boxes after they are
-- joined. So many boxes are cut, or none of them can be cut any more. They are joined until there are
-- no more of them than entries
pub record IsCutTableBy (channels : ℕ) (weigh : List (List ℕ) → ℕ) (middle : List (List ℕ) → List ℕ) (room : ℕ)
    (colors table : List (List ℕ)) : Type 0 where
  pub boxes : List (List (List ℕ))
  pub are : AreBoxesBy channels weigh colors boxes
  pub few : length boxes ≤ more_boxes room
  pub full : (length boxes ≡ more_boxes room) ⊎ All (CannotBeCutBy channels) boxes
  pub groups : List (List (List ℕ))
  pub joined : AreJoinedBy weigh boxes groups
  pub many : length groups ≡ min room (length boxes)
  pub means : table ≡ map middle groups

-- the same for red, green and blue
abbrev pub IsCutTable : (room : ℕ) (colors table : List (List ℕ)) → Type 0
IsCutTable room colors table = IsCutTableBy 3 weight mean room colors table
