-- Premultiplied pixels.
use Rattle.std.specs.Prelude.{◌≡◌, ℕ, ◌<◌, ◌≤◌, List, false}
use Rattle.pix_ops.specs.declared.ops.Op.{Op}
use Rattle.pix_ops.specs.Composite.{term_sum}
use Rattle.pix_el.specs.Pixel.{Layout, is_hue, channel, alpha_of}

-- the number is that of a channel which the alpha bounds: there is one, and it is no hue
pub record IsBounded (layout : Layout) (ch : ℕ) : Type 0 where
  pub within : ch < layout.count
  pub no_hue : is_hue layout ch ≡ false

-- every channel but a hue is at most the alpha
abbrev pub IsPremultiplied : Layout → List ℕ → Type 0
IsPremultiplied layout numbers =
    (ch : ℕ) → IsBounded layout ch → channel layout.max numbers ch ≤ alpha_of layout numbers

-- no sum of terms saturates: that of each channel but a hue is at most the maximum
abbrev pub IsUncut : Layout → Op → List ℕ → List ℕ → Type 0
IsUncut layout op source dest =
    (ch : ℕ) → IsBounded layout ch
    → term_sum layout.max op (channel layout.max source ch) (alpha_of layout source) (channel layout.max dest ch) (alpha_of layout dest) ≤ layout.max
