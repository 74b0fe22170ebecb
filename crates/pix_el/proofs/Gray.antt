-- Red, green and blue of pixels in arrays of their own.
use Rattle.std.proofs.Common.{◌≡◌, ℕ, ◌<◌, ◌+◌, List, [], ◌∷◌, length, get_or, set, take, sym, ap, ◌∙◌, arith, length-set, inl, inr}
use Rattle.std.specs.Prelude.{◌≢◌}
use Rattle.std.proofs.lemmas.Bool.{cases_lt}
use Rattle.std.proofs.lemmas.List.{get_or-set_same, get_or-set_other, get_or_default}
use Rattle.pix_chan.specs.Modes.{GammaMode}
use Rattle.pix_el.specs.Color.{rgba_of, of_rgba}
use Rattle.pix_el.specs.Conversion.{Format, rgba_format, within_model, converted}
use Rattle.pix_el.specs.Gray.{rgba_converted}
use Rattle.pix_el.proofs.Conversions.{converted_other}

-- red, green, blue and alpha, by the pixel's own
pub rgba_is : (format to stated to_stated : Format) (gamma to_gamma : GammaMode) (pixel rgba told : List ℕ)
    → format ≡ stated → to ≡ to_stated
    → rgba ≡ rgba_of stated.to_rgb stated.layout.alpha stated.layout.max pixel
    → told ≡ within_model (rgba_format stated) gamma (rgba_format to_stated) to_gamma rgba
    → told ≡ rgba_converted format gamma to to_gamma pixel
rgba_is format to stated to_stated gamma to_gamma pixel rgba told ef et er ew =
    ew ∙ ap (within_model (rgba_format stated) gamma (rgba_format to_stated) to_gamma) er
    ∙ ap (λ (f : Format). rgba_converted f gamma to_stated to_gamma pixel) (sym ef)
    ∙ ap (λ (t : Format). rgba_converted format gamma t to_gamma pixel) (sym et)

-- the pixel that is made of them
pub made_of_rgba : (format to stated to_stated : Format) (gamma to_gamma : GammaMode) (pixel told made : List ℕ)
    → format ≡ stated → to ≡ to_stated → stated.kind ≢ to_stated.kind
    → told ≡ rgba_converted format gamma to to_gamma pixel
    → made ≡ take to_stated.layout.count (of_rgba to_stated.of_rgb to_stated.layout.max told)
    → made ≡ converted format gamma to to_gamma pixel
made_of_rgba format to stated to_stated gamma to_gamma pixel told made ef et other ew em =
    converted_other format to stated to_stated gamma to_gamma pixel made ef et other
    (em ∙ ap (λ (t : List ℕ). take to_stated.layout.count (of_rgba to_stated.of_rgb to_stated.layout.max t)) ew
    ∙ ap (λ (t : Format). take t.layout.count (of_rgba t.of_rgb t.layout.max (rgba_converted format gamma to to_gamma pixel))) (sym et))

-- the lists have the channels of the first i pixels
pub record Apart {C P : Type 0} (v : C → ℕ) (n : P → List ℕ) (made : List ℕ → List ℕ) (i : ℕ) (reds greens blues alphas : List C) (ps : List P) : Type 0 where
  pub reds_long : length reds ≡ 16
  pub greens_long : length greens ≡ 16
  pub blues_long : length blues ≡ 16
  pub alphas_long : length alphas ≡ 16
  pub done : (j : ℕ) → j < i → (r g b a : C) (p : P) → v (get_or reds j r) ∷ v (get_or greens j g) ∷ v (get_or blues j b) ∷ v (get_or alphas j a) ∷ [] ≡ made (n (get_or ps j p))

module _ {C P : Type 0} (v : C → ℕ) (n : P → List ℕ) (made : List ℕ → List ℕ) where
  pub none_apart : (reds greens blues alphas : List C) (ps : List P) → length reds ≡ 16 → length greens ≡ 16 → length blues ≡ 16 → length alphas ≡ 16
      → Apart v n made 0 reds greens blues alphas ps
  none_apart reds greens blues alphas ps hr hg hb ha = record {
    reds_long = hr;
    greens_long = hg;
    blues_long = hb;
    alphas_long = ha;
    done = λ j h. absurd (omega (arith, h));
  }

  pub one_more : (i : ℕ) (reds greens blues alphas : List C) (ps : List P) (red green blue alpha : C) (item : P)
      → Apart v n made i reds greens blues alphas ps → i < 16 → length ps ≡ 16 → item ≡ get_or ps i item
      → v red ∷ v green ∷ v blue ∷ v alpha ∷ [] ≡ made (n item)
      → Apart v n made (i + 1) (set reds i red) (set greens i green) (set blues i blue) (set alphas i alpha) ps
  one_more i reds greens blues alphas ps red green blue alpha item so lt long at is = record {
    reds_long = length-set reds i red ∙ so.reds_long;
    greens_long = length-set greens i green ∙ so.greens_long;
    blues_long = length-set blues i blue ∙ so.blues_long;
    alphas_long = length-set alphas i alpha ∙ so.alphas_long;
    done = λ j h r g b a p. elim (cases_lt j i) [
      | inl below ↦
          rw (get_or-set_other reds i j red r (λ e. omega (arith, e, below)), get_or-set_other greens i j green g (λ e. omega (arith, e, below)), get_or-set_other blues i j blue b (λ e. omega (arith, e, below)), get_or-set_other alphas i j alpha a (λ e. omega (arith, e, below)))
          (so.done j below r g b a p)
      | inr above ↦
          let here : j ≡ i = omega (arith, above, h) in
          rw (here, get_or-set_same reds i red r (omega (arith, lt, so.reds_long)), get_or-set_same greens i green g (omega (arith, lt, so.greens_long)), get_or-set_same blues i blue b (omega (arith, lt, so.blues_long)), get_or-set_same alphas i alpha a (omega (arith, lt, so.alphas_long)))
          (is ∙ ap (λ (p : P). made (n p)) (at ∙ get_or_default ps i item p (omega (arith, lt, long))))
    ];
  }
