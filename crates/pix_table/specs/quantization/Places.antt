-- The places at which a box of colors is cut. A box is the list of its colors, in any order. How many
-- channels the colors have, and what a box weighs, are the parameters of what is said of any kind of color.
use Rattle.std.specs.Prelude.{◌⊎◌, ◌≡◌, ℕ, ◌+◌, ◌-◌, ◌*◌, ◌/◌, ◌<◌, ◌≤◌, List, ◌++◌, length, slice_index, nat_lt, All, sum_by, count_by, IsPermutation}

-- the sum of the numbers of a box in a channel
abbrev pub sum_in : ℕ → List (List ℕ) → ℕ
sum_in channel box = sum_by (λ color. slice_index color channel) box

-- the part of the sum of a box's squares that its mean accounts for, rounded down: what is left of that sum is the squared error of the box to its mean
abbrev pub weight : List (List ℕ) → ℕ
weight box = (sum_in 0 box * sum_in 0 box + sum_in 1 box * sum_in 1 box + sum_in 2 box * sum_in 2 box) / length box

-- a cut of a box at a value of one of so many channels: the colors below it, and the others. Neither part is empty
pub record IsCutBy (channels : ℕ) (box : List (List ℕ)) (channel value : ℕ) (low high : List (List ℕ)) : Type 0 where
  pub stands : channel < channels
  pub all : IsPermutation box (low ++ high)
  pub below : All (λ color. slice_index color channel < value) low
  pub others : All (λ color. value ≤ slice_index color channel) high
  pub some_below : 0 < length low
  pub some_others : 0 < length high

-- the same for red, green and blue
abbrev pub IsCut : (box : List (List ℕ)) (channel value : ℕ) (low high : List (List ℕ)) → Type 0
IsCut box channel value low high = IsCutBy 3 box channel value low high

-- by how much a cut of a box into two lowers the squared error
abbrev pub gain_by : (weigh : List (List ℕ) → ℕ) (box low high : List (List ℕ)) → ℕ
gain_by weigh box low high = weigh low + weigh high - weigh box

abbrev pub gain : (box low high : List (List ℕ)) → ℕ
gain box low high = gain_by weight box low high

-- whether a place of a box, a channel and a value, comes before another
abbrev pub IsBefore : (c v channel value : ℕ) → Type 0
IsBefore c v channel value = (c < channel) ⊎ ((c ≡ channel) × (v < value))

-- the place of a box at which a cut gains most, the first of equals
pub record IsBestPlaceBy (channels : ℕ) (weigh : List (List ℕ) → ℕ) (box : List (List ℕ)) (channel value most : ℕ) : Type 0 where
  pub best : (c v : ℕ) (low high : List (List ℕ)) → IsCutBy channels box c v low high → gain_by weigh box low high ≤ most
  pub first : (c v : ℕ) (low high : List (List ℕ)) → IsCutBy channels box c v low high → IsBefore c v channel value
      → gain_by weigh box low high < most

-- whether a box has no place at which it can be cut
abbrev pub CannotBeCutBy : (channels : ℕ) → List (List ℕ) → Type 0
CannotBeCutBy channels box = (channel value : ℕ) (low high : List (List ℕ)) → IsCutBy channels box channel value low high → ⊥

-- how many colors of a box have a number in a channel that is below a value
abbrev pub below : (channel value : ℕ) → List (List ℕ) → ℕ
below channel value box = count_by (λ color. nat_lt (slice_index color channel) value) box

-- a place of a box at which a cut gains most, and how much that is
pub record HasBestBy (channels : ℕ) (weigh : List (List ℕ) → ℕ) (box : List (List ℕ)) (channel value most : ℕ) : Type 0 where
  pub stands : channel < channels
  pub some_below : 0 < below channel value box
  pub some_others : below channel value box < length box
  pub gains : (low high : List (List ℕ)) → IsCutBy channels box channel value low high → gain_by weigh box low high ≡ most
  pub place : IsBestPlaceBy channels weigh box channel value most

-- the same for red, green and blue
abbrev pub IsBestPlace : (box : List (List ℕ)) (channel value most : ℕ) → Type 0
IsBestPlace box channel value most = IsBestPlaceBy 3 weight box channel value most

abbrev pub CannotBeCut : List (List ℕ) → Type 0
CannotBeCut box = CannotBeCutBy 3 box

abbrev pub HasBest : (box : List (List ℕ)) (channel value most : ℕ) → Type 0
HasBest box channel value most = HasBestBy 3 weight box channel value most
