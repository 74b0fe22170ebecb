-- Cmy: cyan, magenta and yellow, which are the maximum less red, green and blue.
use Rattle.std.specs.Prelude.{ℕ, ◌-◌, List, [], ◌∷◌}

-- the maximum less each of the three channels, into Rgb and from it
abbrev pub complements : ℕ → ℕ → ℕ → ℕ → List ℕ
complements max one two three = (max - one) ∷ (max - two) ∷ (max - three) ∷ []
