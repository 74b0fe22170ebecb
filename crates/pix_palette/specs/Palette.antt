-- The colors of a palette, and the thresholds with which they are set.
use Rattle.std.specs.Prelude.{◌≡◌, ℕ, List, [], ◌∷◌, Option, Some, None}
use Rattle.pix_table.specs.SrgbColor.{SrgbColor, srgb_numbers}

-- a color: red, green and blue of eight bits each, in sRGB
abbrev pub Color : Type 0
Color = SrgbColor

-- the numbers of a color
abbrev pub numbers : SrgbColor → List ℕ
numbers color = srgb_numbers color

-- the threshold for a number of entries: what the function returns, as `post` tells, or 0 where no
-- function was set
abbrev pub Answers : {F : Type 0} → (F → ℕ → SrgbColor → Type 0) → Option F → ℕ → List ℕ → Type 0
Answers post None count threshold = threshold ≡ 0 ∷ 0 ∷ 0 ∷ []
Answers post (Some f) count threshold = (color : SrgbColor) × post f count color × (threshold ≡ srgb_numbers color)
