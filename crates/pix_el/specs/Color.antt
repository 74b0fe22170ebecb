-- Colors as red, green and blue, and a model's colors made of them. The alpha is passed through.
use Rattle.std.specs.Prelude.{ℕ, ◌+◌, ◌-◌, List, [], ◌∷◌, ◌++◌, map, Bool, nat_le, ◌&&◌}
use Rattle.pix_el.specs.Pixel.{channel}

-- red, green, blue and alpha of a pixel: what the model's formula makes of its first three
-- channels, then its alpha
abbrev pub rgba_of : (ℕ → ℕ → ℕ → ℕ → List ℕ) → ℕ → ℕ → List ℕ → List ℕ
rgba_of to_rgb alpha max numbers =
    to_rgb max (channel max numbers 0) (channel max numbers 1) (channel max numbers 2) ++ (channel max numbers alpha ∷ [])

-- the channels of a model: what its formula makes of red, green and blue, then the alpha
abbrev pub of_rgba : (ℕ → ℕ → ℕ → ℕ → List ℕ) → ℕ → List ℕ → List ℕ
of_rgba of_rgb max rgba =
    of_rgb max (channel max rgba 0) (channel max rgba 1) (channel max rgba 2) ++ (channel max rgba 3 ∷ [])

-- Rgb: the channels themselves
abbrev pub rgb_itself : ℕ → ℕ → ℕ → ℕ → List ℕ
rgb_itself max red green blue = red ∷ green ∷ blue ∷ []

-- Matte into red, green and blue: a matte has no color, and stands for white
abbrev pub rgb_of_matte : ℕ → ℕ → ℕ → ℕ → List ℕ
rgb_of_matte max x y z = max ∷ max ∷ max ∷ []

-- Matte from red, green and blue: no color is left
abbrev pub matte_of_rgb : ℕ → ℕ → ℕ → ℕ → List ℕ
matte_of_rgb max red green blue = []

-- how far apart two numbers are
abbrev pub absolute_difference : ℕ → ℕ → ℕ
absolute_difference x y = (x - y) + (y - x)

-- red, green, blue and alpha, each as far apart as those of two pixels are
abbrev pub rgba_difference : ℕ → List ℕ → List ℕ → List ℕ
rgba_difference max p q =
    map (λ number. absolute_difference (channel max p number) (channel max q number)) (0 ∷ 1 ∷ 2 ∷ 3 ∷ [])

-- whether red, green, blue and alpha are each at most those of the threshold
abbrev pub is_within : ℕ → List ℕ → List ℕ → Bool
is_within max p threshold =
    nat_le (channel max p 0) (channel max threshold 0) && nat_le (channel max p 1) (channel max threshold 1)
    && nat_le (channel max p 2) (channel max threshold 2) && nat_le (channel max p 3) (channel max threshold 3)
