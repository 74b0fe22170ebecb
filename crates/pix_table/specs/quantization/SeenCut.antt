-- The cut of colors with an alpha, as they are seen: over red, green, blue and the alpha.
use Rattle.std.specs.Prelude.{ℕ, ◌+◌, List, [], ◌∷◌, map}
use Rattle.pix_table.specs.quantization.Places.{weight}
use Rattle.pix_table.specs.quantization.Cut.{IsCutTableBy, mean_of}
use Rattle.pix_table.specs.SeenPixels.{over_white}

-- the part of the sum of a box's squares that its mean accounts for, over black and over white, each rounded down
abbrev pub seen_weight : List (List ℕ) → ℕ
seen_weight box = weight box + weight (map over_white box)

-- the mean of a box: of each of its four numbers, to the nearest, ties up
abbrev pub seen_mean : List (List ℕ) → List ℕ
seen_mean box = mean_of 0 box ∷ mean_of 1 box ∷ mean_of 2 box ∷ mean_of 3 box ∷ []

-- the table of a list of colors that are seen, of at most so many entries, by the cut by squared error
abbrev pub IsSeenCutTable : (room : ℕ) (colors table : List (List ℕ)) → Type 0
IsSeenCutTable room colors table = IsCutTableBy 4 seen_weight seen_mean room colors table
