-- Hue, whiteness and blackness (A. R. Smith and E. R. Lyons, 1996).
use Rattle.std.specs.Prelude.{ℕ, pos, ◌-◌, ◌+◌, ◌*◌, nat_lt, if◌then◌else◌, List, [], ◌∷◌}
use Rattle.pix_chan.specs.Product.{channel_product, channel_quotient}
use Rattle.pix_chan.specs.Nearest.{nearest}
use Rattle.pix_color.specs.Hexcone.{lifted_rgb, hue_of, chroma_of, value_of}

-- x as a part of the sum of whiteness and blackness, as a channel
abbrev pub share : ℕ → ℕ → ℕ → ℕ
share max x sum = nearest max (pos (x * max)) (pos sum)

-- whiteness and blackness; where their sum is above the maximum, the share of each in it
abbrev pub fitted : ℕ → ℕ → ℕ → ℕ × ℕ
fitted max w b = if nat_lt (max - b) w then (share max w (w + b), share max b (w + b)) else (w, b)

-- into red, green and blue: the value is the maximum less the blackness, and the chroma is the
-- value less the whiteness
abbrev pub rgb_of_hwb : ℕ → ℕ → ℕ → ℕ → List ℕ
rgb_of_hwb max hue w b =
    let value = max - (fitted max w b).1 in
    let chroma = value - (fitted max w b).0 in
    lifted_rgb max hue chroma (value - chroma)

-- from red, green and blue: the whiteness is the maximum less the saturation, times the value; the
-- blackness is the maximum less the value
abbrev pub hwb_of_rgb : ℕ → ℕ → ℕ → ℕ → List ℕ
hwb_of_rgb max r g b =
    let value = value_of r g b in
    hue_of max r g b ∷ channel_product max (max - channel_quotient max (chroma_of r g b) value) value ∷ (max - value) ∷ []
