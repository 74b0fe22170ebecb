-- YCbCr: the luma, with the weights of ITU-R BT.601, and how far blue and red are from it, over the
-- full range of a channel (ITU-T T.871, JFIF).
use Rattle.std.specs.Prelude.{ℕ, List, pos}
use Rattle.pix_color.specs.Linear.{Weights, weights, less, weighted_sums}

-- the luma, and the differences of blue and of red, from red, green and blue
abbrev pub luma : Weights
luma = weights (pos 299) (pos 587) (pos 114) (pos 0) 1000

abbrev pub blue_difference : Weights
blue_difference = weights (less 168736) (less 331264) (pos 500000) (pos 500000) 1000000

abbrev pub red_difference : Weights
red_difference = weights (pos 500000) (less 418688) (less 81312) (pos 500000) 1000000

-- red, green and blue from the luma and the differences
abbrev pub red : Weights
red = weights (pos 1000) (pos 0) (pos 1402) (less 701) 1000

abbrev pub green : Weights
green = weights (pos 1000000) (less 344136) (less 714136) (pos 529136) 1000000

abbrev pub blue : Weights
blue = weights (pos 1000) (pos 1772) (pos 0) (less 886) 1000

-- into red, green and blue
abbrev pub rgb_of_ycc : ℕ → ℕ → ℕ → ℕ → List ℕ
rgb_of_ycc = weighted_sums red green blue

-- from red, green and blue
abbrev pub ycc_of_rgb : ℕ → ℕ → ℕ → ℕ → List ℕ
ycc_of_rgb = weighted_sums luma blue_difference red_difference
