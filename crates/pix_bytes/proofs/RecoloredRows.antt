-- Rows of pixels whose colors a curve maps, as conversions.
use Rattle.std.proofs.Common.{◌≡◌, ℕ, zero, suc, ◌<◌, ◌+◌, ◌*◌, List, [], ◌∷◌, slice_range, get_or, refl, sym, ap, ◌∙◌, arith, Bool, true, false}
use Rattle.std.specs.Prelude.{if◌then◌else◌}
use Rattle.pix_chan.specs.Product.{channel_product}
use Rattle.pix_chan.specs.Srgb.{srgb_decoded, srgb_encoded}
use Rattle.pix_chan.specs.Modes.{Linear, Srgb}
use Rattle.pix_chan.proofs.Planes.{cons}
use Rattle.pix_el.specs.Pixel.{channel}
use Rattle.pix_el.specs.Conversion.{at_depth, converted}
use Rattle.pix_el.specs.Model as models
use Rattle.pix_bytes.specs.Models.{model_of}
use Rattle.pix_bytes.specs.Recolored.{recolored, model_in_order, IsRecolored, gray_recolored, IsGrayRecolored}
use Rattle.pix_bytes.specs.Rows.{IsEach, alpha_mode_of, format_at}
use Rattle.pix_bytes.specs.BitmapFormats.{format_with, samples, padded}
use Rattle.pix_bytes.specs.declared.bitmap.format.FormatParts.{FormatParts}
use Rattle.pix_bytes.proofs.Parts.{range_at}

-- the channels of pixels of four bytes and of three are bytes
four_bytes : (src : List ℕ) (start : ℕ) → ((i : ℕ) → get_or src i 0 < 256) → (ch : ℕ) → channel 255 (samples 255 4 (slice_range src start (start + 4))) ch < 256
four_bytes src start small zero = omega (arith, range_at src start 4 0 (omega arith), small (start + 0))
four_bytes src start small (suc zero) = omega (arith, range_at src start 4 1 (omega arith), small (start + 1))
four_bytes src start small (suc (suc zero)) = omega (arith, range_at src start 4 2 (omega arith), small (start + 2))
four_bytes src start small (suc (suc (suc zero))) = omega (arith, range_at src start 4 3 (omega arith), small (start + 3))
four_bytes src start small (suc (suc (suc (suc k)))) = omega arith

three_bytes : (src : List ℕ) (start : ℕ) → ((i : ℕ) → get_or src i 0 < 256) → (ch : ℕ) → channel 255 (samples 255 3 (slice_range src start (start + 3))) ch < 256
three_bytes src start small zero = omega (arith, range_at src start 3 0 (omega arith), small (start + 0))
three_bytes src start small (suc zero) = omega (arith, range_at src start 3 1 (omega arith), small (start + 1))
three_bytes src start small (suc (suc zero)) = omega (arith, range_at src start 3 2 (omega arith), small (start + 2))
three_bytes src start small (suc (suc (suc k))) = omega arith

-- what makes the same of such pixels
pub each_of_four : (f g : List ℕ → List ℕ) (src dst : List ℕ) (count : ℕ) → ((i : ℕ) → get_or src i 0 < 256)
    → ((p : List ℕ) → ((ch : ℕ) → channel 255 p ch < 256) → f p ≡ g p) → IsEach 255 255 4 4 4 4 f src dst count → IsEach 255 255 4 4 4 4 g src dst count
each_of_four f g src dst count small same each = λ index lt.
    each index lt ∙ ap (padded 255 4) (same (samples 255 4 (slice_range src (index * 4) (index * 4 + 4))) (four_bytes src (index * 4) small))

pub each_of_three : (f g : List ℕ → List ℕ) (src dst : List ℕ) (count : ℕ) → ((i : ℕ) → get_or src i 0 < 256)
    → ((p : List ℕ) → ((ch : ℕ) → channel 255 p ch < 256) → f p ≡ g p) → IsEach 255 255 3 4 3 4 f src dst count → IsEach 255 255 3 4 3 4 g src dst count
each_of_three f g src dst count small same each = λ index lt.
    each index lt ∙ ap (padded 255 4) (same (samples 255 3 (slice_range src (index * 3) (index * 3 + 3))) (three_bytes src (index * 3) small))

-- a byte at its own depth
depth : (x : ℕ) → x < 256 → at_depth 255 255 x ≡ x
depth x h = omega (arith, h)

-- a color at an alpha, at their own depth
color : (curve : ℕ → ℕ) (x a : ℕ) → x < 256 → a < 256 → channel_product 255 (curve x) a ≡ channel_product 255 (curve (at_depth 255 255 x)) (at_depth 255 255 a)
color curve x a h k =
    ap (λ (n : ℕ). channel_product 255 (curve n) a) (sym (depth x h)) ∙ ap (channel_product 255 (curve (at_depth 255 255 x))) (sym (depth a k))

bare : (curve : ℕ → ℕ) (x : ℕ) → x < 256 → curve x ≡ curve (at_depth 255 255 x)
bare curve x h = ap curve (sym (depth x h))

-- an opaque color, multiplied by the alpha
opaque_product : (x : ℕ) → x ≡ channel_product 255 x 255
unfolding channel_product
opaque_product x = omega arith

kept : (curve : ℕ → ℕ) (x : ℕ) → x < 256 → curve x ≡ channel_product 255 (curve (at_depth 255 255 x)) 255
kept curve x h = bare curve x h ∙ opaque_product (curve (at_depth 255 255 x))

abbrev decoded_by : (one other m : Bool) (count : ℕ) → List ℕ → List ℕ
decoded_by one other m count p =
    converted (format_with 255 (model_of (model_in_order one)) count (alpha_mode_of false)) Srgb (format_with 255 (model_of (model_in_order other)) 4 (alpha_mode_of m)) Linear p

abbrev encoded_by : (one other : Bool) (count : ℕ) → List ℕ → List ℕ
encoded_by one other count p =
    converted (format_with 255 (model_of (model_in_order one)) count (alpha_mode_of false)) Linear (format_with 255 (model_of (model_in_order other)) 4 (alpha_mode_of false)) Srgb p

module _ (p : List ℕ) (small : (ch : ℕ) → channel 255 p ch < 256) where
  product : (curve : ℕ → ℕ) (ch : ℕ) → channel_product 255 (curve (channel 255 p ch)) (channel 255 p 3) ≡ channel_product 255 (curve (at_depth 255 255 (channel 255 p ch))) (at_depth 255 255 (channel 255 p 3))
  product curve ch = color curve (channel 255 p ch) (channel 255 p 3) (small ch) (small 3)

  alone : (curve : ℕ → ℕ) (ch : ℕ) → curve (channel 255 p ch) ≡ curve (at_depth 255 255 (channel 255 p ch))
  alone curve ch = bare curve (channel 255 p ch) (small ch)

  last : channel 255 p 3 ≡ at_depth 255 255 (channel 255 p 3)
  last = sym (depth (channel 255 p 3) (small 3))

  decodes : (one other r m : Bool) (count : ℕ) → (if r then (if one then false else true) else one) ≡ other → recolored srgb_decoded r m p ≡ decoded_by one other m count p
  decodes false false false false count e = cons (alone srgb_decoded 0) (cons (alone srgb_decoded 1) (cons (alone srgb_decoded 2) (cons last refl)))
  decodes true true false false count e = cons (alone srgb_decoded 0) (cons (alone srgb_decoded 1) (cons (alone srgb_decoded 2) (cons last refl)))
  decodes false true true false count e = cons (alone srgb_decoded 2) (cons (alone srgb_decoded 1) (cons (alone srgb_decoded 0) (cons last refl)))
  decodes true false true false count e = cons (alone srgb_decoded 2) (cons (alone srgb_decoded 1) (cons (alone srgb_decoded 0) (cons last refl)))
  decodes false false false true count e = cons (product srgb_decoded 0) (cons (product srgb_decoded 1) (cons (product srgb_decoded 2) (cons last refl)))
  decodes true true false true count e = cons (product srgb_decoded 0) (cons (product srgb_decoded 1) (cons (product srgb_decoded 2) (cons last refl)))
  decodes false true true true count e = cons (product srgb_decoded 2) (cons (product srgb_decoded 1) (cons (product srgb_decoded 0) (cons last refl)))
  decodes true false true true count e = cons (product srgb_decoded 2) (cons (product srgb_decoded 1) (cons (product srgb_decoded 0) (cons last refl)))
  decodes false false true m count e = absurd (grind (arith, e))
  decodes true true true m count e = absurd (grind (arith, e))
  decodes false true false m count e = absurd (grind (arith, e))
  decodes true false false m count e = absurd (grind (arith, e))

  encodes : (one other r : Bool) (count : ℕ) → (if r then (if one then false else true) else one) ≡ other → recolored srgb_encoded r false p ≡ encoded_by one other count p
  encodes false false false count e = cons (alone srgb_encoded 0) (cons (alone srgb_encoded 1) (cons (alone srgb_encoded 2) (cons last refl)))
  encodes true true false count e = cons (alone srgb_encoded 0) (cons (alone srgb_encoded 1) (cons (alone srgb_encoded 2) (cons last refl)))
  encodes false true true count e = cons (alone srgb_encoded 2) (cons (alone srgb_encoded 1) (cons (alone srgb_encoded 0) (cons last refl)))
  encodes true false true count e = cons (alone srgb_encoded 2) (cons (alone srgb_encoded 1) (cons (alone srgb_encoded 0) (cons last refl)))
  encodes false false true count e = absurd (grind (arith, e))
  encodes true true true count e = absurd (grind (arith, e))
  encodes false true false count e = absurd (grind (arith, e))
  encodes true false false count e = absurd (grind (arith, e))

pub is_decoded : (from to : FormatParts) → IsRecolored from to srgb_decoded (converted (format_at 255 from) Srgb (format_at 255 to) Linear)
is_decoded from to = λ one other r count from_is to_is order count_is four straight p small.
    rw (from_is, to_is, count_is, four, straight) (decodes p small one other r to.is_premultiplied count order)

pub is_encoded : (from to : FormatParts) → to.is_premultiplied ≡ false → IsRecolored from to srgb_encoded (converted (format_at 255 from) Linear (format_at 255 to) Srgb)
is_encoded from to bare = λ one other r count from_is to_is order count_is four straight p small.
    rw (from_is, to_is, count_is, four, straight, bare) (encodes p small one other r count order)

-- gray pixels as opaque ones
grays_decoded : (r m : Bool) (x : ℕ) → x < 256
    → gray_recolored srgb_decoded (x ∷ []) ≡ converted (format_with 255 models.Gray 1 (alpha_mode_of false)) Srgb (format_with 255 (model_of (model_in_order r)) 4 (alpha_mode_of m)) Linear (x ∷ [])
grays_decoded false false x h = cons (bare srgb_decoded x h) (cons (bare srgb_decoded x h) (cons (bare srgb_decoded x h) refl))
grays_decoded true false x h = cons (bare srgb_decoded x h) (cons (bare srgb_decoded x h) (cons (bare srgb_decoded x h) refl))
grays_decoded false true x h = cons (kept srgb_decoded x h) (cons (kept srgb_decoded x h) (cons (kept srgb_decoded x h) refl))
grays_decoded true true x h = cons (kept srgb_decoded x h) (cons (kept srgb_decoded x h) (cons (kept srgb_decoded x h) refl))

grays_encoded : (r : Bool) (x : ℕ) → x < 256
    → gray_recolored srgb_encoded (x ∷ []) ≡ converted (format_with 255 models.Gray 1 (alpha_mode_of false)) Linear (format_with 255 (model_of (model_in_order r)) 4 (alpha_mode_of false)) Srgb (x ∷ [])
grays_encoded false x h = cons (bare srgb_encoded x h) (cons (bare srgb_encoded x h) (cons (bare srgb_encoded x h) refl))
grays_encoded true x h = cons (bare srgb_encoded x h) (cons (bare srgb_encoded x h) (cons (bare srgb_encoded x h) refl))

pub are_decoded : (from to : FormatParts) → IsGrayRecolored from to srgb_decoded (converted (format_at 255 from) Srgb (format_at 255 to) Linear)
are_decoded from to = λ r from_is to_is one four straight x h.
    rw (from_is, to_is, one, four, straight) (grays_decoded r to.is_premultiplied x h)

pub are_encoded : (from to : FormatParts) → to.is_premultiplied ≡ false → IsGrayRecolored from to srgb_encoded (converted (format_at 255 from) Linear (format_at 255 to) Srgb)
are_encoded from to straight = λ r from_is to_is one four from_straight x h.
    rw (from_is, to_is, one, four, from_straight, straight) (grays_encoded r x h)

-- a gray pixel is a byte
pub each_of_one : (f g : List ℕ → List ℕ) (src dst : List ℕ) (count : ℕ) → ((i : ℕ) → get_or src i 0 < 256)
    → ((x : ℕ) → x < 256 → f (x ∷ []) ≡ g (x ∷ [])) → IsEach 255 255 1 4 1 4 f src dst count → IsEach 255 255 1 4 1 4 g src dst count
each_of_one f g src dst count small same each = λ index lt.
    each index lt ∙ ap (padded 255 4) (same (get_or (slice_range src (index * 1) (index * 1 + 1)) 0 0) (omega (arith, range_at src (index * 1) 1 0 (omega arith), small (index * 1 + 0))))

-- the pixel of a gray value
pub gray_is : (curve : ℕ → ℕ) (src made : List ℕ) (i : ℕ) → made ≡ curve (get_or src i 0) ∷ curve (get_or src i 0) ∷ curve (get_or src i 0) ∷ 255 ∷ []
    → samples 255 4 made ≡ padded 255 4 (gray_recolored curve (samples 255 1 (slice_range src (i * 1) (i * 1 + 1))))
gray_is curve src made i is =
    let at : i * 1 + 0 ≡ i = omega arith in
    let e : get_or src i 0 ≡ get_or (slice_range src (i * 1) (i * 1 + 1)) 0 0 = sym (range_at src (i * 1) 1 0 (omega arith) ∙ ap (λ (n : ℕ). get_or src n 0) at) in
    let same : curve (get_or src i 0) ≡ curve (get_or (slice_range src (i * 1) (i * 1 + 1)) 0 0) = ap curve e in
    ap (samples 255 4) is ∙ cons same (cons same (cons same (cons refl refl)))
