-- Hue, saturation and lightness (G. H. Joblove and D. Greenberg, 1978).
use Rattle.std.specs.Prelude.{ℕ, ◌+◌, ◌-◌, ◌*◌, ◌/◌, min, List, [], ◌∷◌}
use Rattle.pix_chan.specs.Product.{channel_product, channel_quotient}
use Rattle.pix_el.specs.Color.{absolute_difference}
use Rattle.pix_color.specs.Hexcone.{lifted_rgb, hue_of, chroma_of, value_of}

-- half of one more than the maximum
abbrev pub half : ℕ → ℕ
half max = (max + 1) / 2

-- the greatest chroma of a lightness l: the maximum less the absolute difference of 2l and the
-- maximum
abbrev pub greatest_chroma : ℕ → ℕ → ℕ
greatest_chroma max lightness = max - absolute_difference (2 * lightness) max

-- into red, green and blue: the chroma is the greatest chroma times the saturation, lifted by the
-- lightness less half the chroma
abbrev pub rgb_of_hsl : ℕ → ℕ → ℕ → ℕ → List ℕ
rgb_of_hsl max hue saturation lightness =
    let chroma = channel_product max (greatest_chroma max lightness) saturation in
    lifted_rgb max hue chroma (lightness - channel_product max chroma (half max))

-- the lightness of a color: its value less half the chroma
abbrev pub lightness_of : ℕ → ℕ → ℕ → ℕ → ℕ
lightness_of max r g b = value_of r g b - channel_product max (chroma_of r g b) (half max)

-- from red, green and blue: the saturation is the value less the lightness, over the lesser of the
-- lightness and the maximum less the lightness
abbrev pub hsl_of_rgb : ℕ → ℕ → ℕ → ℕ → List ℕ
hsl_of_rgb max r g b =
    let lightness = lightness_of max r g b in
    hue_of max r g b ∷ channel_quotient max (value_of r g b - lightness) (min lightness (max - lightness)) ∷ lightness ∷ []
