-- Hue, saturation and value (A. R. Smith, 1978).
use Rattle.std.specs.Prelude.{ℕ, ◌-◌, List, [], ◌∷◌}
use Rattle.pix_chan.specs.Product.{channel_product, channel_quotient}
use Rattle.pix_color.specs.Hexcone.{lifted_rgb, hue_of, chroma_of, value_of}

-- into red, green and blue: the chroma is the value times the saturation, lifted to the value
abbrev pub rgb_of_hsv : ℕ → ℕ → ℕ → ℕ → List ℕ
rgb_of_hsv max hue saturation value =
    let chroma = channel_product max value saturation in
    lifted_rgb max hue chroma (value - chroma)

-- from red, green and blue: the saturation is the chroma over the value
abbrev pub hsv_of_rgb : ℕ → ℕ → ℕ → ℕ → List ℕ
hsv_of_rgb max r g b =
    hue_of max r g b ∷ channel_quotient max (chroma_of r g b) (value_of r g b) ∷ value_of r g b ∷ []
