-- Eight pixels of three colors, with an alpha or without one, whose colors a curve maps, by their
-- bytes. No clause of a public call cites this file.
use Rattle.std.specs.Prelude.{◌≡◌, ◌<◌, ℕ, zero, suc, ◌+◌, List, [], ◌∷◌, slice_index_or, Bool, true, false, if◌then◌else◌}
use Rattle.pix_chan.specs.Product.{channel_product}
use Rattle.pix_el.specs.Pixel.{channel}
use Rattle.pix_bytes.specs.Lit.{first_place, last_place}
use Rattle.pix_bytes.specs.declared.bitmap.format.FormatParts.{FormatParts}
use Rattle.pix_bytes.specs.declared.bitmap.model.ModelName.{ModelName}
use Rattle.pix_bytes.specs.declared.bitmap.model.ModelName.TheVariants.{Rgb, Bgr, Gray}

-- a color as it is, or multiplied by the alpha
abbrev pub at_alpha : Bool → ℕ → ℕ → ℕ
at_alpha is_premultiplied color alpha = if is_premultiplied then channel_product 255 color alpha else color

-- a pixel whose colors a curve maps, in their order or reversed; without an alpha it is opaque
abbrev pub recolored : (ℕ → ℕ) → (is_reversed is_premultiplied : Bool) → List ℕ → List ℕ
recolored curve is_reversed is_premultiplied pixel =
    at_alpha is_premultiplied (curve (channel 255 pixel (first_place is_reversed))) (channel 255 pixel 3)
    ∷ at_alpha is_premultiplied (curve (channel 255 pixel 1)) (channel 255 pixel 3)
    ∷ at_alpha is_premultiplied (curve (channel 255 pixel (last_place is_reversed))) (channel 255 pixel 3)
    ∷ channel 255 pixel 3
    ∷ []

-- what a curve makes of the byte at a place
abbrev pub curved_at : (ℕ → ℕ) → List ℕ → ℕ → ℕ
curved_at curve bytes place = curve (slice_index_or bytes place 0)

-- the colors of n pixels of `size` bytes from a place on, each pixel followed by a number
abbrev pub colors_from : (ℕ → ℕ) → Bool → (size fourth : ℕ) → List ℕ → (place n : ℕ) → List ℕ
colors_from curve is_reversed size fourth bytes place zero = []
colors_from curve is_reversed size fourth bytes place (suc n) =
    curved_at curve bytes (place + first_place is_reversed)
    ∷ curved_at curve bytes (place + 1)
    ∷ curved_at curve bytes (place + last_place is_reversed)
    ∷ fourth
    ∷ colors_from curve is_reversed size fourth bytes (place + size) n

-- the alphas of n pixels of four bytes from a place on, each once for each channel of its pixel
abbrev pub alphas_from : List ℕ → (place n : ℕ) → List ℕ
alphas_from bytes place zero = []
alphas_from bytes place (suc n) =
    slice_index_or bytes (place + 3) 0 ∷ slice_index_or bytes (place + 3) 0 ∷ slice_index_or bytes (place + 3) 0 ∷ slice_index_or bytes (place + 3) 0
    ∷ alphas_from bytes (place + 4) n

-- n pixels of four bytes from a place on, whose colors a curve maps
abbrev pub recolored_from : (ℕ → ℕ) → (is_reversed is_premultiplied : Bool) → List ℕ → (place n : ℕ) → List ℕ
recolored_from curve is_reversed is_premultiplied bytes place zero = []
recolored_from curve is_reversed is_premultiplied bytes place (suc n) =
    at_alpha is_premultiplied (curved_at curve bytes (place + first_place is_reversed)) (slice_index_or bytes (place + 3) 0)
    ∷ at_alpha is_premultiplied (curved_at curve bytes (place + 1)) (slice_index_or bytes (place + 3) 0)
    ∷ at_alpha is_premultiplied (curved_at curve bytes (place + last_place is_reversed)) (slice_index_or bytes (place + 3) 0)
    ∷ slice_index_or bytes (place + 3) 0
    ∷ recolored_from curve is_reversed is_premultiplied bytes (place + 4) n

-- the last channels of n pixels of four channels
abbrev pub last_channels : (n : ℕ) → List ℕ
last_channels zero = []
last_channels (suc n) = 0 ∷ 0 ∷ 0 ∷ 255 ∷ last_channels n

-- the model of red, green and blue, or of blue, green and red
abbrev pub model_in_order : (is_reversed : Bool) → ModelName
model_in_order is_reversed = if is_reversed then Bgr else Rgb

-- f is what a curve makes of the colors of straight pixels of three or four bytes
abbrev pub IsRecolored : FormatParts → FormatParts → (ℕ → ℕ) → (List ℕ → List ℕ) → Type 0
IsRecolored from to curve f = (from_reversed to_reversed is_reversed : Bool) (count : ℕ)
    → from.model ≡ model_in_order from_reversed → to.model ≡ model_in_order to_reversed
    → (if is_reversed then (if from_reversed then false else true) else from_reversed) ≡ to_reversed
    → from.count ≡ count → to.count ≡ 4 → from.is_premultiplied ≡ false
    → (p : List ℕ) → ((ch : ℕ) → channel 255 p ch < 256) → recolored curve is_reversed to.is_premultiplied p ≡ f p

-- an opaque pixel whose colors are what a curve makes of a gray value
abbrev pub gray_recolored : (ℕ → ℕ) → List ℕ → List ℕ
gray_recolored curve pixel = curve (channel 255 pixel 0) ∷ curve (channel 255 pixel 0) ∷ curve (channel 255 pixel 0) ∷ 255 ∷ []

-- f is what a curve makes of gray pixels of one byte
abbrev pub IsGrayRecolored : FormatParts → FormatParts → (ℕ → ℕ) → (List ℕ → List ℕ) → Type 0
IsGrayRecolored from to curve f = (is_reversed : Bool)
    → from.model ≡ Gray → to.model ≡ model_in_order is_reversed
    → from.count ≡ 1 → to.count ≡ 4 → from.is_premultiplied ≡ false
    → (x : ℕ) → x < 256 → gray_recolored curve (x ∷ []) ≡ f (x ∷ [])
