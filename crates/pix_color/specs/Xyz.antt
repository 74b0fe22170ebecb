-- Xyz: the CIE 1931 tristimulus values of linear red, green and blue, by the matrices of IEC
-- 61966-2-1:1999 to four decimals.
use Rattle.std.specs.Prelude.{ℕ, List, pos}
use Rattle.pix_color.specs.Linear.{Weights, weights, less, weighted_sums}

-- x, y and z from red, green and blue
abbrev pub x_part : Weights
x_part = weights (pos 4124) (pos 3576) (pos 1805) (pos 0) 10000

abbrev pub y_part : Weights
y_part = weights (pos 2126) (pos 7152) (pos 722) (pos 0) 10000

abbrev pub z_part : Weights
z_part = weights (pos 193) (pos 1192) (pos 9505) (pos 0) 10000

-- red, green and blue from x, y and z
abbrev pub red : Weights
red = weights (pos 32406) (less 15372) (less 4986) (pos 0) 10000

abbrev pub green : Weights
green = weights (less 9689) (pos 18758) (pos 415) (pos 0) 10000

abbrev pub blue : Weights
blue = weights (pos 557) (less 2040) (pos 10570) (pos 0) 10000

-- into red, green and blue
abbrev pub rgb_of_xyz : ℕ → ℕ → ℕ → ℕ → List ℕ
rgb_of_xyz = weighted_sums red green blue

-- from red, green and blue
abbrev pub xyz_of_rgb : ℕ → ℕ → ℕ → ℕ → List ℕ
xyz_of_rgb = weighted_sums x_part y_part z_part
