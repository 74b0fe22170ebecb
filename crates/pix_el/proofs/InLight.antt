-- Pixels between sRGB of eight bits and linear light of sixteen.
use Rattle.std.proofs.Common.{◌≡◌, ℕ, List, suc, zero, ◌≤◌, ◌+◌, ◌*◌, ◌/◌, min, [], ◌∷◌, map, take, refl, sym, ap, ◌∙◌, inl, inr, arith}
use Rattle.std.specs.List.{range_with_len}
use Rattle.std.proofs.lemmas.Bool.{cases_lt}
use Rattle.std.proofs.lemmas.Nat.{div-mul-add, le-div}
use Rattle.pix_chan.specs.Product.{channel_product, channel_quotient}
use Rattle.pix_chan.specs.Modes.{AlphaMode, Straight, Premultiplied, alpha_kind}
use Rattle.pix_el.specs.Pixel.{Layout}
use Rattle.pix_el.specs.Conversion.{Format}
use Rattle.pix_chan.specs.Srgb16.{srgb_decoded16}
use Rattle.pix_el.specs.Light.{mode_changed, in_light}
use Rattle.pix_el.specs.Planes.{linear_four, premultiplied_four}
use Rattle.pix_el.proofs.Conversions.{four_channels, straight_is, premultiplied_is}

-- a pixel made of four channels, each by its number
pub four_of : (f : ℕ → ℕ) (format : Format) (layout stated : Layout) (a b c d : ℕ) → format.layout ≡ stated → layout ≡ stated → layout.count ≤ 4
    → a ≡ f 0 → b ≡ f 1 → c ≡ f 2 → d ≡ f 3 → take layout.count (a ∷ b ∷ c ∷ d ∷ []) ≡ map f (range_with_len 0 format.layout.count)
four_of f format layout stated a b c d ef el few ea eb ec ed =
    four_channels f a b c d layout.count few ea eb ec ed
    ∙ ap (λ (l : Layout). map f (range_with_len 0 l.count)) (el ∙ sym ef)

-- the quotient by the maximum
pub whole_quotient : (max x : ℕ) → x ≤ max → channel_quotient max x max ≡ x
whole_quotient zero x h = let e : 0 ≡ x = omega (arith, h) in e
whole_quotient (suc m) x h =
    let max : ℕ = suc m in
    let parts : (max + 1) * x ≡ x * max + x = omega arith in
    let at_least : x ≤ (max + 1) * x / max = rw parts (le-div x (x * max + x) max (omega arith) (omega arith)) in
    elim (cases_lt x max) [
      | inl below ↦
          let e : (max + 1) * x / max ≡ x = ap (λ (n : ℕ). n / max) parts ∙ div-mul-add x max x below in
          rw e (let k : min max x ≡ x = omega (arith, h) in k)
      | inr above ↦
          let k : min max ((max + 1) * x / max) ≡ x = omega (arith, at_least, above, h) in k
    ]

-- at the greatest alpha the alpha modes are the same
opaque_by : (max : ℕ) (mode to_mode : AlphaMode) (x : ℕ) → ((x : ℕ) → channel_product max x max ≡ x) → x ≤ max → mode_changed max mode to_mode max x ≡ x
opaque_by max Straight Straight x identity fits = refl
opaque_by max Straight Premultiplied x identity fits = identity x
opaque_by max Premultiplied Straight x identity fits = whole_quotient max x fits
opaque_by max Premultiplied Premultiplied x identity fits = refl

pub opaque : (max : ℕ) (mode to_mode : AlphaMode) (alpha x : ℕ) → ((x : ℕ) → channel_product max x max ≡ x) → x ≤ max → alpha ≡ max → x ≡ mode_changed max mode to_mode alpha x
opaque max mode to_mode alpha x identity fits e =
    sym (ap (λ (a : ℕ). mode_changed max mode to_mode a x) e ∙ opaque_by max mode to_mode x identity fits)

-- from straight to premultiplied, of four channels
within_light : (format to : Format) (pixel : List ℕ) → alpha_kind format.alpha_mode ≡ 0 → alpha_kind to.alpha_mode ≡ 1
    → to.layout.count ≡ 4 → to.layout.alpha ≡ 3 → to.colors.start ≡ 0 → to.colors.end ≡ 3
    → in_light format to pixel ≡ premultiplied_four to.layout.max (linear_four format.layout.max to.layout.max srgb_decoded16 pixel)
within_light format to pixel s p count alpha start end =
    rw (straight_is format.alpha_mode s, premultiplied_is to.alpha_mode p, count, alpha, start, end) refl

pub light_premultiplied : (format to stated to_stated : Format) (pixel : List ℕ) → format ≡ stated → to ≡ to_stated
    → alpha_kind stated.alpha_mode ≡ 0 → alpha_kind to_stated.alpha_mode ≡ 1
    → to_stated.layout.count ≡ 4 → to_stated.layout.alpha ≡ 3 → to_stated.colors.start ≡ 0 → to_stated.colors.end ≡ 3
    → premultiplied_four to_stated.layout.max (linear_four stated.layout.max to_stated.layout.max srgb_decoded16 pixel) ≡ in_light format to pixel
light_premultiplied format to stated to_stated pixel ef et s p count alpha start end =
    sym (ap (λ (f : Format). in_light f to pixel) ef
    ∙ ap (λ (t : Format). in_light stated t pixel) et
    ∙ within_light stated to_stated pixel s p count alpha start end)
