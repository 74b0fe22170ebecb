-- The nearest of a list of colors. A color is the list of its numbers: red, green and blue.
use Rattle.std.specs.Prelude.{◌⊎◌, ◌≡◌, ◌≢◌, ℕ, ◌+◌, ◌-◌, ◌*◌, ◌<◌, ◌≤◌, List, [], ◌∷◌, length, slice_index, slice_index_or, Option, Some, None}
use Rattle.pix_table.specs.declared.color.Color.{Color}

-- the numbers of a color
abbrev pub numbers : Color → List ℕ
numbers color = color.red ∷ color.green ∷ color.blue ∷ []

-- the square of how far two numbers are apart
abbrev pub squared_difference : ℕ → ℕ → ℕ
squared_difference x y = ((x - y) + (y - x)) * ((x - y) + (y - x))

-- how far two colors are apart: the sum of the squared differences in red, green and blue
abbrev pub distance : List ℕ → List ℕ → ℕ
distance p q =
    squared_difference (slice_index p 0) (slice_index q 0) + squared_difference (slice_index p 1) (slice_index q 1)
    + squared_difference (slice_index p 2) (slice_index q 2)

-- how far the entry of an index is from a color
abbrev pub distance_to : List (List ℕ) → List ℕ → ℕ → ℕ
distance_to entries color i = distance (slice_index_or entries i []) color

-- the entry i is the nearest to a color, by how far apart two are: none is nearer, and none before it
-- is as near
pub record IsNearestBy (apart : List ℕ → List ℕ → ℕ) (entries : List (List ℕ)) (color : List ℕ) (i : ℕ) : Type 0 where
  pub stands : i < length entries
  pub least : (k : ℕ) → k < length entries → apart (slice_index_or entries i []) color ≤ apart (slice_index_or entries k []) color
  pub first : (k : ℕ) → k < i → apart (slice_index_or entries i []) color < apart (slice_index_or entries k []) color

-- the same by the sum of the squared differences
abbrev pub IsNearest : (entries : List (List ℕ)) (color : List ℕ) (i : ℕ) → Type 0
IsNearest entries color i = IsNearestBy distance entries color i

-- the index of the nearest entry, or none where there is no entry
abbrev pub IsNearestOf : List (List ℕ) → List ℕ → Option ℕ → Type 0
IsNearestOf entries color (Some i) = IsNearest entries color i
IsNearestOf entries color None = length entries ≡ 0

-- the entry i is the first that is the color: the first at a distance of 0
pub record IsFirst (entries : List (List ℕ)) (color : List ℕ) (i : ℕ) : Type 0 where
  pub stands : i < length entries
  pub same : distance_to entries color i ≡ 0
  pub first : (k : ℕ) → k < i → distance_to entries color k ≢ 0

-- the alpha of a pixel, which is its fourth number; a pixel without one is opaque
abbrev pub alpha_of : List ℕ → ℕ
alpha_of pixel = slice_index_or pixel 3 255

-- the index of a pixel: the transparent one below an alpha, and else that of its nearest entry
abbrev pub IsMatched : List (List ℕ) → (alpha transparent_index : ℕ) → List ℕ → ℕ → Type 0
IsMatched entries alpha transparent_index pixel i =
    ((alpha_of pixel < alpha) × (i ≡ transparent_index)) ⊎ ((alpha ≤ alpha_of pixel) × IsNearest entries pixel i)

-- each pixel has its index at the same place
pub record AreMatched (entries : List (List ℕ)) (alpha transparent_index : ℕ) (pixels : List (List ℕ)) (indices : List ℕ) : Type 0 where
  pub many : length indices ≡ length pixels
  pub each : (k : ℕ) → k < length pixels → IsMatched entries alpha transparent_index (slice_index_or pixels k []) (slice_index indices k)
