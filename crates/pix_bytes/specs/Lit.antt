-- Four sRGB pixels of three colors and an alpha in light, by their bytes.
use Rattle.std.specs.Prelude.{ℕ, ◌+◌, ◌*◌, ◌/◌, ◌%◌, List, [], ◌∷◌, slice_index_or, Bool, if◌then◌else◌}
use Rattle.pix_chan.specs.Product.{channel_product}
use Rattle.pix_chan.specs.Srgb16.{srgb_decoded16}
use Rattle.pix_el.specs.Pixel.{channel}

-- the places of the first and the last color in a pixel: red and blue, or blue and red
abbrev pub first_place : Bool → ℕ
first_place is_reversed = if is_reversed then 2 else 0

abbrev pub last_place : Bool → ℕ
last_place is_reversed = if is_reversed then 0 else 2

-- a pixel in light as red, green and blue, multiplied by the alpha
abbrev pub multiplied_light : Bool → List ℕ → List ℕ
multiplied_light is_reversed pixel =
    channel_product 65535 (srgb_decoded16 (channel 255 pixel (first_place is_reversed))) (257 * channel 255 pixel 3)
    ∷ channel_product 65535 (srgb_decoded16 (channel 255 pixel 1)) (257 * channel 255 pixel 3)
    ∷ channel_product 65535 (srgb_decoded16 (channel 255 pixel (last_place is_reversed))) (257 * channel 255 pixel 3)
    ∷ (257 * channel 255 pixel 3)
    ∷ []

-- the light of the byte at a place, and the byte there as an alpha of sixteen bits
abbrev pub light_at : List ℕ → ℕ → ℕ
light_at bytes place = srgb_decoded16 (slice_index_or bytes place 0)

abbrev pub alpha_at : List ℕ → ℕ → ℕ
alpha_at bytes place = 257 * slice_index_or bytes place 0

-- the light of four pixels as if they were opaque
abbrev pub opaque_light : Bool → List ℕ → List ℕ
opaque_light is_reversed bytes =
    light_at bytes (first_place is_reversed) ∷ light_at bytes 1 ∷ light_at bytes (last_place is_reversed) ∷ 65535
    ∷ light_at bytes (4 + first_place is_reversed) ∷ light_at bytes 5 ∷ light_at bytes (4 + last_place is_reversed) ∷ 65535
    ∷ light_at bytes (8 + first_place is_reversed) ∷ light_at bytes 9 ∷ light_at bytes (8 + last_place is_reversed) ∷ 65535
    ∷ light_at bytes (12 + first_place is_reversed) ∷ light_at bytes 13 ∷ light_at bytes (12 + last_place is_reversed) ∷ 65535
    ∷ []

-- the alphas of four pixels, each once for each channel of its pixel
abbrev pub four_alphas : List ℕ → List ℕ
four_alphas bytes =
    alpha_at bytes 3 ∷ alpha_at bytes 3 ∷ alpha_at bytes 3 ∷ alpha_at bytes 3
    ∷ alpha_at bytes 7 ∷ alpha_at bytes 7 ∷ alpha_at bytes 7 ∷ alpha_at bytes 7
    ∷ alpha_at bytes 11 ∷ alpha_at bytes 11 ∷ alpha_at bytes 11 ∷ alpha_at bytes 11
    ∷ alpha_at bytes 15 ∷ alpha_at bytes 15 ∷ alpha_at bytes 15 ∷ alpha_at bytes 15
    ∷ []

-- numbers of sixteen bits in bytes, the lower byte of each first
abbrev pub bytes_of : List ℕ → List ℕ
bytes_of [] = []
bytes_of (x ∷ xs) = x % 256 ∷ x / 256 ∷ bytes_of xs
