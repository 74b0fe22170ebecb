-- Rows of pixels by the depths of both formats.
use Rattle.std.proofs.Common.{◌≡◌, ℕ, ◌+◌, ◌*◌, ◌∙◌, List, slice_range, subst, sym, ap, refl, arith, true, false}
use Rattle.pix_chan.specs.Product.{channel_product}
use Rattle.pix_chan.specs.Srgb16.{srgb_decoded16}
use Rattle.pix_chan.proofs.Planes.{cons}
use Rattle.pix_el.specs.Pixel.{channel}
use Rattle.pix_el.specs.Conversion.{Format, at_depth}
use Rattle.pix_bytes.specs.Bitmap.{IsConvertedBitmap, crossed, into_light}
use Rattle.pix_bytes.specs.Lit.{multiplied_light}
use Rattle.pix_bytes.specs.Rows.{IsEach, IsRow, max_of, gamma_of, format_at, stored_of}
use Rattle.pix_bytes.specs.BitmapFormats.{sample_size, samples, padded}
use Rattle.pix_bytes.specs.declared.bitmap.format.Depth.{Depth}
use Rattle.pix_bytes.specs.declared.bitmap.format.FormatParts.{FormatParts}
use Rattle.pix_bytes.specs.declared.bitmap.model.ModelName.TheVariants.{Rgb, Bgr}

-- each pixel is converted, where both depths are known
pub crossed_as : (from to : FormatParts) (depth to_depth : Depth) (count : ℕ) (src dst : List ℕ) → from.depth ≡ depth → to.depth ≡ to_depth
    → IsEach (max_of depth) (max_of to_depth) from.count (to.count + to.spare)
    ((from.count + from.spare) * sample_size (max_of depth)) ((to.count + to.spare) * sample_size (max_of to_depth))
    (crossed (record { format = format_at (max_of depth) from; gamma = gamma_of depth }) (record { format = format_at (max_of to_depth) to; gamma = gamma_of to_depth })) src dst count
    → IsConvertedBitmap (stored_of from) (stored_of to) count src dst
crossed_as from to depth to_depth count src dst is to_is each = record { each = λ index lt. rw (is, to_is) (each index lt) }

-- a row of pixels of two formats, where the one is known by another name
pub crossed_from : (max to_max : ℕ) (known from to : FormatParts) (makes : Format → Format → List ℕ → List ℕ) (count : ℕ) (src dst : List ℕ) → known ≡ from
    → IsRow max to_max makes known to count src dst → IsRow max to_max makes from to count src dst
crossed_from max to_max known from to makes count src dst e h = subst (λ (s : FormatParts). IsRow max to_max makes s to count src dst) e h

-- .. or the other
pub crossed_to : (max to_max : ℕ) (from known to : FormatParts) (makes : Format → Format → List ℕ → List ℕ) (count : ℕ) (src dst : List ℕ) → known ≡ to
    → IsRow max to_max makes from known count src dst → IsRow max to_max makes from to count src dst
crossed_to max to_max from known to makes count src dst e h = subst (λ (s : FormatParts). IsRow max to_max makes from s count src dst) e h

-- .. of which the one function makes what the other does
pub each_same : (max to_max from_count all size to_size : ℕ) (f g : List ℕ → List ℕ) (src dst : List ℕ) (count : ℕ) → ((p : List ℕ) → f p ≡ g p)
    → IsEach max to_max from_count all size to_size f src dst count → IsEach max to_max from_count all size to_size g src dst count
each_same max to_max from_count all size to_size f g src dst count same each = λ index lt.
    each index lt ∙ ap (padded to_max all) (same (samples max from_count (slice_range src (index * size) (index * size + size))))

-- straight pixels of red, green, blue and alpha, those of blue, green, red and alpha, and
-- premultiplied ones
abbrev pub rgba : Depth → FormatParts
rgba depth = record { model = Rgb; count = 4; is_premultiplied = false; depth = depth; spare = 0 }

abbrev pub bgra : Depth → FormatParts
bgra depth = record { model = Bgr; count = 4; is_premultiplied = false; depth = depth; spare = 0 }

abbrev pub rgbap : Depth → FormatParts
rgbap depth = record { model = Rgb; count = 4; is_premultiplied = true; depth = depth; spare = 0 }

depth_same : (x : ℕ) → at_depth 65535 65535 x ≡ x
depth_same x = omega arith

depth_up : (x : ℕ) → at_depth 255 65535 x ≡ 257 * x
depth_up x = omega arith

color_lit : (x a : ℕ) → at_depth 65535 65535 (channel_product 65535 x (at_depth 255 65535 a)) ≡ channel_product 65535 x (257 * a)
color_lit x a = depth_same (channel_product 65535 x (at_depth 255 65535 a)) ∙ ap (channel_product 65535 x) (depth_up a)

pub rgba_in_light : (depth to_depth : Depth) (p : List ℕ) → multiplied_light false p ≡ into_light (format_at 255 (rgba depth)) (format_at 65535 (rgbap to_depth)) p
rgba_in_light depth to_depth p =
    let a : ℕ = channel 255 p 3 in
    sym (cons (color_lit (srgb_decoded16 (channel 255 p 0)) a) (cons (color_lit (srgb_decoded16 (channel 255 p 1)) a) (cons (color_lit (srgb_decoded16 (channel 255 p 2)) a)
    (cons (depth_same (at_depth 255 65535 a) ∙ depth_up a) refl))))

pub bgra_in_light : (depth to_depth : Depth) (p : List ℕ) → multiplied_light true p ≡ into_light (format_at 255 (bgra depth)) (format_at 65535 (rgbap to_depth)) p
bgra_in_light depth to_depth p =
    let a : ℕ = channel 255 p 3 in
    sym (cons (color_lit (srgb_decoded16 (channel 255 p 2)) a) (cons (color_lit (srgb_decoded16 (channel 255 p 1)) a) (cons (color_lit (srgb_decoded16 (channel 255 p 0)) a)
    (cons (depth_same (at_depth 255 65535 a) ∙ depth_up a) refl))))
