-- Gray: one value.
use Rattle.std.specs.Prelude.{ℕ, List, [], ◌∷◌, pos}
use Rattle.pix_color.specs.Linear.{Weights, weights, weighted_sum}

-- the luminance of red, green and blue, with the weights of ITU-R BT.709
abbrev pub luminance : Weights
luminance = weights (pos 2126) (pos 7152) (pos 722) (pos 0) 10000

-- into red, green and blue: the value three times
abbrev pub rgb_of_gray : ℕ → ℕ → ℕ → ℕ → List ℕ
rgb_of_gray max value y z = value ∷ value ∷ value ∷ []

-- from red, green and blue: the luminance
abbrev pub gray_of_rgb : ℕ → ℕ → ℕ → ℕ → List ℕ
gray_of_rgb max r g b = weighted_sum max luminance r g b ∷ []
