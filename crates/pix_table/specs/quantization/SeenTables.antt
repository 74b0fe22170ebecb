-- A table of colors with an alpha, made of the pixels of a picture.
use Rattle.std.specs.Prelude.{◌⊎◌, ◌≡◌, ℕ, ◌*◌, ◌<◌, ◌≤◌, Bool, List, [], ◌∷◌, ◌&&◌, length, map, slice_index, count_by, sum_by, nat_eq, nat_le, nat_lt, if◌then◌else◌}
use Rattle.pix_table.specs.matching.Nearest.{alpha_of}
use Rattle.pix_table.specs.quantization.Quantization.{distinct_by, same_color}
use Rattle.pix_table.specs.quantization.Refine.{AreRoundsBy, IsRoundBy, NoRoundIsWorseBy}
use Rattle.pix_table.specs.quantization.SquaredErrors.{squared_error_by}
use Rattle.pix_table.specs.SeenPixels.{made_opaque, seen, seen_distance, straight}
use Rattle.pix_table.specs.quantization.SeenCut.{IsSeenCutTable, seen_mean}

-- the sum of the squared errors of some colors that are shown by one
abbrev pub error_to : List ℕ → List (List ℕ) → ℕ
error_to entry colors = sum_by (λ color. seen_distance entry color) colors

-- an entry after a round: the mean of its colors, where that makes their squared error no greater,
-- and else itself
abbrev pub seen_settled : List ℕ → List (List ℕ) → List ℕ
seen_settled entry [] = entry
seen_settled entry (color ∷ colors) =
    if nat_le (error_to (seen_mean (color ∷ colors)) (color ∷ colors)) (error_to entry (color ∷ colors))
    then seen_mean (color ∷ colors) else entry

-- whether a color is opaque
abbrev pub is_opaque : List ℕ → Bool
is_opaque color = nat_eq (slice_index color 3) 255

-- an entry after all rounds: where its alpha is at least 250 and more than half of its colors are opaque,
-- it becomes opaque as well, since no eye can tell but a program can
abbrev pub opaque_settled : List ℕ → List (List ℕ) → List ℕ
opaque_settled entry colors =
    if nat_le 250 (slice_index entry 3) && nat_lt (length colors) (2 * count_by is_opaque colors) then made_opaque entry else entry

-- the four numbers of a pixel: its color, and its alpha
abbrev pub four_of : List ℕ → List ℕ
four_of pixel = slice_index pixel 0 ∷ slice_index pixel 1 ∷ slice_index pixel 2 ∷ alpha_of pixel ∷ []

-- whether two seen colors are the same
abbrev pub same_seen : List ℕ → List ℕ → Bool
same_seen p q = same_color p q && nat_eq (slice_index p 3) (slice_index q 3)

-- the pixels that are seen as none before them
abbrev pub distinct_pixels : List (List ℕ) → List (List ℕ)
distinct_pixels pixels = distinct_by (λ p q. same_seen (seen p) (seen q)) (map four_of pixels)

-- a table after so many rounds, none of which makes the squared error greater. Then its entries become
-- opaque, most of whose colors are
abbrev pub IsSeenRefined : (rounds : ℕ) → (colors first table : List (List ℕ)) → Type 0
IsSeenRefined rounds colors first table =
    (last : List (List ℕ)) × AreRoundsBy seen_distance seen_settled rounds colors first last
    × (squared_error_by seen_distance last colors ≤ squared_error_by seen_distance first colors)
    × IsRoundBy seen_distance opaque_settled colors last table

-- the table of a list of seen colors where there is no room for all: that of the cut, refined by so
-- many rounds, none of which makes the squared error greater
abbrev pub IsSeenTable : (rounds room : ℕ) → (colors table : List (List ℕ)) → Type 0
IsSeenTable rounds room colors table =
    (first : List (List ℕ)) × IsSeenCutTable room colors first × IsSeenRefined rounds colors first table
    × NoRoundIsWorseBy seen_distance seen_settled colors

-- the table of some pixels: the distinct ones, where there is room for them. Else its entries are seen
-- as the table of what the pixels are seen as, and each of them is what it is seen as, divided by its
-- alpha
abbrev pub IsQuantizedRgba : (rounds room : ℕ) → (pixels table : List (List ℕ)) → Type 0
IsQuantizedRgba rounds room pixels table =
    ((length (distinct_pixels pixels) ≤ room) × (table ≡ distinct_pixels pixels))
    ⊎ ((room < length (distinct_pixels pixels)) × IsSeenTable rounds room (map seen pixels) (map seen table)
    × (table ≡ map straight (map seen table)))
