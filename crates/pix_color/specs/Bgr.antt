-- Bgr: blue, green and red, the channels of Rgb in reverse order.
use Rattle.std.specs.Prelude.{ℕ, List, [], ◌∷◌}

-- the three channels in reverse order, into Rgb and from it
abbrev pub reversed : ℕ → ℕ → ℕ → ℕ → List ℕ
reversed max one two three = three ∷ two ∷ one ∷ []
