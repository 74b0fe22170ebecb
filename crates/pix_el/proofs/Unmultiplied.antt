-- Conversions that divide the colors by the alpha, and change nothing else but the depth.
use Rattle.std.proofs.Common.{◌≡◌, ℕ, List, refl, sym, ap, ◌∙◌, arith}
use Rattle.pix_chan.specs.Modes.{alpha_kind, GammaMode, Linear, Srgb, gamma_kind}
use Rattle.pix_el.specs.Pixel.{Layout}
use Rattle.pix_el.specs.Conversion.{Format, of_depth, within_model, converted}
use Rattle.pix_el.specs.Unmultiplied.{unmultiplied_four}
use Rattle.pix_el.proofs.Conversions.{straight_is, premultiplied_is, converted_same}

linear_is : (mode : GammaMode) → gamma_kind mode ≡ 0 → mode ≡ Linear
linear_is Linear e = refl
linear_is Srgb e = absurd (omega (arith, e))

-- from premultiplied to straight, linear, of four channels and within one model
within_unmultiplied : (format to : Format) (gamma to_gamma : GammaMode) (pixel : List ℕ)
    → alpha_kind format.alpha_mode ≡ 1 → alpha_kind to.alpha_mode ≡ 0 → gamma_kind gamma ≡ 0 → gamma_kind to_gamma ≡ 0
    → to.layout.count ≡ 4 → to.layout.alpha ≡ 3 → to.colors.start ≡ 0 → to.colors.end ≡ 3
    → within_model format gamma to to_gamma pixel ≡ unmultiplied_four to.layout.max (of_depth format.layout to.layout pixel)
within_unmultiplied format to gamma to_gamma pixel p s l m count alpha start end =
    rw (premultiplied_is format.alpha_mode p, straight_is to.alpha_mode s, linear_is gamma l, linear_is to_gamma m, count, alpha, start, end) refl

pub converted_unmultiplied : (format to stated to_stated : Format) (gamma to_gamma : GammaMode) (layout to_layout : Layout) (pixel : List ℕ)
    → format ≡ stated → to ≡ to_stated → layout ≡ stated.layout → to_layout ≡ to_stated.layout → stated.kind ≡ to_stated.kind
    → alpha_kind stated.alpha_mode ≡ 1 → alpha_kind to_stated.alpha_mode ≡ 0 → gamma_kind gamma ≡ 0 → gamma_kind to_gamma ≡ 0
    → to_stated.layout.count ≡ 4 → to_stated.layout.alpha ≡ 3 → to_stated.colors.start ≡ 0 → to_stated.colors.end ≡ 3
    → converted format gamma to to_gamma pixel ≡ unmultiplied_four to_stated.layout.max (of_depth layout to_layout pixel)
converted_unmultiplied format to stated to_stated gamma to_gamma layout to_layout pixel ef et el em same p s l m count alpha start end =
    ap (λ (f : Format). converted f gamma to to_gamma pixel) ef
    ∙ ap (λ (t : Format). converted stated gamma t to_gamma pixel) et
    ∙ sym (converted_same stated to_stated stated to_stated gamma to_gamma pixel (within_model stated gamma to_stated to_gamma pixel) refl refl same refl)
    ∙ within_unmultiplied stated to_stated gamma to_gamma pixel p s l m count alpha start end
    ∙ ap (λ (y : Layout). unmultiplied_four to_stated.layout.max (of_depth y to_stated.layout pixel)) (sym el)
    ∙ ap (λ (y : Layout). unmultiplied_four to_stated.layout.max (of_depth layout y pixel)) (sym em)
