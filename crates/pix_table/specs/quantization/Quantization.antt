-- A table made from the pixels of a picture.
use Rattle.std.specs.Prelude.{◌⊎◌, ◌≡◌, ℕ, ◌<◌, ◌≤◌, List, [], ◌∷◌, ◌++◌, Bool, ◌&&◌, length, map, filter, fold, slice_index, nat_eq, nat_le, if◌then◌else◌}
use Rattle.std.specs.List.{list_any}
use Rattle.pix_table.specs.matching.Nearest.{alpha_of}
use Rattle.pix_table.specs.quantization.Cut.{IsCutTable}
use Rattle.pix_table.specs.quantization.Grays.{IsLeastOr}

-- the color of a pixel: its first three numbers
abbrev pub color_of : List ℕ → List ℕ
color_of pixel = slice_index pixel 0 ∷ slice_index pixel 1 ∷ slice_index pixel 2 ∷ []

-- the colors of the pixels whose alpha is not below one
abbrev pub shown : ℕ → List (List ℕ) → List (List ℕ)
shown alpha pixels = map color_of (filter (λ pixel. nat_le alpha (alpha_of pixel)) pixels)

-- whether two colors are the same
abbrev pub same_color : List ℕ → List ℕ → Bool
same_color p q = nat_eq (slice_index p 0) (slice_index q 0) && nat_eq (slice_index p 1) (slice_index q 1) && nat_eq (slice_index p 2) (slice_index q 2)

-- colors with one more at the end, if none of them is the same
abbrev pub with_color_by : (List ℕ → List ℕ → Bool) → List (List ℕ) → List ℕ → List (List ℕ)
with_color_by same colors color = if list_any (λ c. same c color) colors then colors else colors ++ color ∷ []

-- the distinct colors of a list, in order of first place, by what is the same
abbrev pub distinct_by : (List ℕ → List ℕ → Bool) → List (List ℕ) → List (List ℕ)
distinct_by same colors = fold (with_color_by same) [] colors

-- the distinct colors of a list, in order of first place
abbrev pub distinct : List (List ℕ) → List (List ℕ)
distinct colors = distinct_by same_color colors

-- the table of a list of colors, of at most a number of entries: its distinct colors, where there
-- is room for them; else the least, where all are grays; and else that of the cut by squared error
abbrev pub IsQuantized : ℕ → List (List ℕ) → List (List ℕ) → Type 0
IsQuantized room colors table =
    ((length (distinct colors) ≤ room) × (table ≡ distinct colors))
    ⊎ ((room < length (distinct colors)) × IsLeastOr (IsCutTable room colors table) room colors table)
