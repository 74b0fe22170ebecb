-- The text of rows of pixels that come one after the other. No clause of a public call cites this
-- file.
use Rattle.std.specs.Prelude.{ℕ, ◌+◌, List, [], ◌∷◌, ◌++◌, nat_lt, if◌then◌else◌}
use Rattle.pix_script.specs.Text.{pixel_text}

-- the text of pixels, the first of which is in a column of rows of a width: a space comes after
-- each, or a line feed where its row ends
abbrev pub text_from : (width column : ℕ) → List (List ℕ) → List ℕ
text_from width column [] = []
text_from width column (pixel ∷ pixels) =
    if nat_lt (column + 1) width then (pixel_text pixel ++ 32 ∷ []) ++ text_from width (column + 1) pixels
    else (pixel_text pixel ++ 10 ∷ []) ++ text_from width 0 pixels
