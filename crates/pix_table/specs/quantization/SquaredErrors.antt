-- The squared errors of colors that are shown by the entries of a table.
use Rattle.std.specs.Prelude.{ℕ, List, [], ◌∷◌, fold, min, sum_by}
use Rattle.pix_table.specs.matching.Nearest.{distance}

-- how far the nearest of some entries is from a color
abbrev pub least_distance_by : (apart : List ℕ → List ℕ → ℕ) → List (List ℕ) → List ℕ → ℕ
least_distance_by apart [] color = 0
least_distance_by apart (entry ∷ entries) color = fold (λ least e. min least (apart e color)) (apart entry color) entries

-- the sum of the squared errors of a list of colors, each of which is shown by its nearest entry
abbrev pub squared_error_by : (apart : List ℕ → List ℕ → ℕ) → (entries colors : List (List ℕ)) → ℕ
squared_error_by apart entries colors = sum_by (λ color. least_distance_by apart entries color) colors

-- the same by the sum of the squared differences
abbrev pub least_distance : List (List ℕ) → List ℕ → ℕ
least_distance entries color = least_distance_by distance entries color

abbrev pub squared_error : (entries colors : List (List ℕ)) → ℕ
squared_error entries colors = squared_error_by distance entries colors
