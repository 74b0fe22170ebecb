-- The hexcone (A. R. Smith, 1978): the circle of hues in six parts, and the hue of a color.
use Rattle.std.specs.Prelude.{ℕ, zero, suc, pos, ◌-◌, ◌+◌, ◌*◌, ◌/◌, ◌%◌, max, min, nat_eq, nat_le, if◌then◌else◌, List, [], ◌∷◌}
use Rattle.pix_chan.specs.Number.{saturating_sum}
use Rattle.pix_chan.specs.Product.{channel_product}
use Rattle.pix_chan.specs.Nearest.{nearest}
use Rattle.pix_color.specs.declared.hue.Hexcone.{Hexcone}
use Rattle.pix_color.specs.declared.hue.Hexcone.TheVariants.{Red, Yellow, Green, Cyan, Blue, Magenta}

-- a part of the hexcone, its weight as a number
abbrev pub numbered : {C : Type 0} → (C → ℕ) → Hexcone C → Hexcone ℕ
numbered number (Red w) = Red (number w)
numbered number (Yellow w) = Yellow (number w)
numbered number (Green w) = Green (number w)
numbered number (Cyan w) = Cyan (number w)
numbered number (Blue w) = Blue (number w)
numbered number (Magenta w) = Magenta (number w)

-- the six parts in order, each with its weight; the seventh is the first again
abbrev pub sixth : ℕ → ℕ → Hexcone ℕ
sixth zero w = Red w
sixth (suc zero) w = Yellow w
sixth (suc (suc zero)) w = Green w
sixth (suc (suc (suc zero))) w = Cyan w
sixth (suc (suc (suc (suc zero)))) w = Blue w
sixth (suc (suc (suc (suc (suc zero))))) w = Magenta w
sixth (suc (suc (suc (suc (suc (suc n)))))) w = Red w

-- the part in which a hue lies: six times the hue over the maximum, its remainder the weight
abbrev pub hexcone_of : ℕ → ℕ → Hexcone ℕ
hexcone_of max hue = sixth (6 * hue / max) (6 * hue % max)

-- red, green and blue of a part at a chroma, the least of them 0
abbrev pub rgb_of_hexcone : ℕ → Hexcone ℕ → ℕ → ℕ × ℕ × ℕ
rgb_of_hexcone max (Red w) c = (c, channel_product max c w, 0)
rgb_of_hexcone max (Yellow w) c = (channel_product max c (max - w), c, 0)
rgb_of_hexcone max (Green w) c = (0, c, channel_product max c w)
rgb_of_hexcone max (Cyan w) c = (0, channel_product max c (max - w), c)
rgb_of_hexcone max (Blue w) c = (channel_product max c w, 0, c)
rgb_of_hexcone max (Magenta w) c = (c, 0, channel_product max c (max - w))

-- red, green and blue of a hue at a chroma, with the same lift added to each
abbrev pub lifted_rgb : ℕ → ℕ → ℕ → ℕ → List ℕ
lifted_rgb max hue chroma lift =
    let rgb = rgb_of_hexcone max (hexcone_of max hue) chroma in
    saturating_sum max rgb.0 lift ∷ saturating_sum max rgb.1 lift ∷ saturating_sum max rgb.2 lift ∷ []

-- how much of its chroma red has where six times the hue is p: all of it up to a sixth on either
-- side, and none from two sixths on
abbrev pub red_share : ℕ → ℕ → ℕ
red_share top p = min (max (2 * top - p) (p - 4 * top)) top

-- the same of green, which is whole from one sixth to three
abbrev pub green_share : ℕ → ℕ → ℕ
green_share top p = min (min p (4 * top - p)) top

-- and of blue, which is whole from three sixths to five
abbrev pub blue_share : ℕ → ℕ → ℕ
blue_share top p = min (min (p - 2 * top) (6 * top - p)) top

-- the value of a color: the greatest of red, green and blue
abbrev pub value_of : ℕ → ℕ → ℕ → ℕ
value_of r g b = max (max r g) b

-- the chroma of a color: how far the greatest is from the least
abbrev pub chroma_of : ℕ → ℕ → ℕ → ℕ
chroma_of r g b = value_of r g b - min (min r g) b

-- the hue that is n / 6c of the circle
abbrev pub hue_at : ℕ → ℕ → ℕ → ℕ
hue_at max n c = nearest max (pos (max * n)) (pos (6 * c))

-- how far round the circle red, green and blue of chroma c and value v are, each sixth as long as
-- the chroma
abbrev pub turn : ℕ → ℕ → ℕ → ℕ → ℕ → ℕ
turn r g b c v =
    if nat_eq v r then (if nat_le b g then g - b else 6 * c - (b - g))
    else (if nat_eq v g then 2 * c + b - r
    else 4 * c + r - g)

-- the hue after a turn of n / 6c of the circle, 0 where c is 0
abbrev pub hue_after : ℕ → ℕ → ℕ → ℕ
hue_after max n c = if nat_eq c 0 then 0 else hue_at max n c

-- the hue of red, green and blue of chroma c and value v, by the first case that fits: gray, red,
-- green, blue the greatest
abbrev pub hue_in : ℕ → ℕ → ℕ → ℕ → ℕ → ℕ → ℕ
hue_in max r g b c v =
    if nat_eq c 0 then 0
    else (if nat_eq v r then (if nat_le b g then hue_at max (g - b) c else hue_at max (6 * c - (b - g)) c)
    else (if nat_eq v g then hue_at max (2 * c + b - r) c
    else hue_at max (4 * c + r - g) c))

-- the hue of a color
abbrev pub hue_of : ℕ → ℕ → ℕ → ℕ → ℕ
hue_of max r g b = hue_in max r g b (chroma_of r g b) (value_of r g b)
