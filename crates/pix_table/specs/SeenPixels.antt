-- How pixels with an alpha are seen: over black and over white, each in eight bits.
use Rattle.std.specs.Prelude.{◌≡◌, ℕ, zero, suc, ◌+◌, ◌-◌, ◌*◌, ◌/◌, ◌<◌, ◌≤◌, List, [], ◌∷◌, length, map, slice_index, slice_index_or}
use Rattle.pix_chan.specs.Product.{channel_product}
use Rattle.pix_table.specs.matching.Nearest.{distance, alpha_of, IsNearestBy}
use Rattle.pix_table.specs.declared.rgba.color.RgbaColor.{RgbaColor}
use Rattle.pix_table.specs.declared.rgba.color.SeenColor.{SeenColor}

-- the numbers of a color with an alpha
abbrev pub rgba_numbers : RgbaColor → List ℕ
rgba_numbers color = color.red ∷ color.green ∷ color.blue ∷ color.alpha ∷ []

-- the numbers of a color that is seen
abbrev pub seen_numbers : SeenColor → List ℕ
seen_numbers color = color.red ∷ color.green ∷ color.blue ∷ color.alpha ∷ []

-- a color that is seen has four numbers, none of the first three above the alpha
pub record AreSeen (color : List ℕ) : Type 0 where
  pub many : length color ≡ 4
  pub red : slice_index color 0 ≤ slice_index color 3
  pub green : slice_index color 1 ≤ slice_index color 3
  pub blue : slice_index color 2 ≤ slice_index color 3
  pub alpha : slice_index color 3 ≤ 255

-- a pixel over black: its color times its alpha, rounded to the nearest, and its alpha
abbrev pub seen : List ℕ → List ℕ
seen pixel =
    channel_product 255 (slice_index pixel 0) (alpha_of pixel) ∷ channel_product 255 (slice_index pixel 1) (alpha_of pixel)
    ∷ channel_product 255 (slice_index pixel 2) (alpha_of pixel) ∷ alpha_of pixel ∷ []

-- the color of a pixel over white
abbrev pub over_white : List ℕ → List ℕ
over_white color =
    (slice_index color 0 + (255 - slice_index color 3)) ∷ (slice_index color 1 + (255 - slice_index color 3))
    ∷ (slice_index color 2 + (255 - slice_index color 3)) ∷ []

-- how far apart two pixels are seen: over black and over white, added
abbrev pub seen_distance : List ℕ → List ℕ → ℕ
seen_distance p q = distance p q + distance (over_white p) (over_white q)

-- a number that is divided by an alpha, to the nearest, ties up
abbrev pub over_alpha : (number alpha : ℕ) → ℕ
over_alpha number zero = 0
over_alpha number (suc a) = (510 * number + suc a) / (2 * suc a)

-- the pixel that is seen as a color: not multiplied by its alpha
abbrev pub straight : List ℕ → List ℕ
straight color =
    over_alpha (slice_index color 0) (slice_index color 3) ∷ over_alpha (slice_index color 1) (slice_index color 3)
    ∷ over_alpha (slice_index color 2) (slice_index color 3) ∷ slice_index color 3 ∷ []

-- a color that is seen, made opaque: divided by its alpha
abbrev pub made_opaque : List ℕ → List ℕ
made_opaque color =
    over_alpha (slice_index color 0) (slice_index color 3) ∷ over_alpha (slice_index color 1) (slice_index color 3)
    ∷ over_alpha (slice_index color 2) (slice_index color 3) ∷ 255 ∷ []

-- each pixel has the index of the entry that is seen nearest to it, the first of equals
pub record AreSeenMatched (entries pixels : List (List ℕ)) (indices : List ℕ) : Type 0 where
  pub many : length indices ≡ length pixels
  pub each : (k : ℕ) → k < length pixels
      → IsNearestBy seen_distance (map seen entries) (seen (slice_index_or pixels k [])) (slice_index indices k)
