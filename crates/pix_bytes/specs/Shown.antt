-- Four pixels of light of three colors and an alpha as sRGB, by their bytes. No clause of a public
-- call cites this file.
use Rattle.std.specs.Prelude.{ℕ, ◌+◌, ◌*◌, ◌/◌, List, [], ◌∷◌, ◌++◌, map, Bool, if◌then◌else◌}
use Rattle.std.specs.Simd.Lanes.{zip2, pick_l}
use Rattle.pix_chan.specs.Product.{channel_quotient}
use Rattle.pix_chan.specs.LaneQuotients.{for_each_channel}
use Rattle.pix_chan.specs.Srgb16.{srgb_encoded8}
use Rattle.pix_el.specs.Pixel.{channel}
use Rattle.pix_bytes.specs.Lit.{first_place, last_place}
use Rattle.pix_bytes.specs.BitmapFormats.{sample_at, samples}

-- a pixel as sRGB: each color is divided by the alpha and encoded, and the alpha keeps its upper
-- eight bits
abbrev pub shown : Bool → List ℕ → List ℕ
shown is_reversed pixel =
    srgb_encoded8 (channel_quotient 65535 (channel 65535 pixel (first_place is_reversed)) (channel 65535 pixel 3))
    ∷ srgb_encoded8 (channel_quotient 65535 (channel 65535 pixel 1) (channel 65535 pixel 3))
    ∷ srgb_encoded8 (channel_quotient 65535 (channel 65535 pixel (last_place is_reversed)) (channel 65535 pixel 3))
    ∷ (channel 65535 pixel 3 / 256)
    ∷ []

-- the alpha of sixteen bits of the pixel of a number, in bytes
abbrev pub light_alpha : List ℕ → ℕ → ℕ
light_alpha bytes number = sample_at 65535 bytes (4 * number + 3)

-- the alphas of four pixels, each once for each channel of its pixel
abbrev pub light_alphas : List ℕ → List ℕ
light_alphas bytes = for_each_channel (light_alpha bytes 0) (light_alpha bytes 1) (light_alpha bytes 2) (light_alpha bytes 3)

-- the channels of four pixels divided by the alphas
abbrev pub straight_light : List ℕ → List ℕ
straight_light bytes = zip2 (channel_quotient 65535) (samples 65535 16 bytes) (light_alphas bytes)

-- in four pixels' levels, followed by their upper bytes, the places of three levels and an alpha of
-- each pixel
abbrev pub shown_places : Bool → List ℕ
shown_places is_reversed =
    if is_reversed then 2 ∷ 1 ∷ 0 ∷ 19 ∷ 6 ∷ 5 ∷ 4 ∷ 23 ∷ 10 ∷ 9 ∷ 8 ∷ 27 ∷ 14 ∷ 13 ∷ 12 ∷ 31 ∷ []
    else 0 ∷ 1 ∷ 2 ∷ 19 ∷ 4 ∷ 5 ∷ 6 ∷ 23 ∷ 8 ∷ 9 ∷ 10 ∷ 27 ∷ 12 ∷ 13 ∷ 14 ∷ 31 ∷ []

-- the bytes of four pixels as sRGB
abbrev pub shown_bytes : Bool → List ℕ → List ℕ
shown_bytes is_reversed bytes =
    pick_l 0 (map srgb_encoded8 (straight_light bytes) ++ map (λ x. x / 256) (samples 65535 16 bytes)) (shown_places is_reversed)
