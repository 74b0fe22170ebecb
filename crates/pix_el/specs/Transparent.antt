-- Transparent pixels, and pixels that stay.
use Rattle.std.specs.Prelude.{◌≡◌, ℕ, ◌<◌, List}
use Rattle.pix_el.specs.Pixel.{Layout, channel}
use Rattle.pix_el.specs.Premultiplied.{IsBounded}

-- each channel but a hue is 0, the alpha among them
abbrev pub IsTransparent : Layout → List ℕ → Type 0
IsTransparent layout numbers = (ch : ℕ) → IsBounded layout ch → channel layout.max numbers ch ≡ 0

-- each channel of `made` is that of `old`, a hue too
abbrev pub IsUnchanged : Layout → List ℕ → List ℕ → Type 0
IsUnchanged layout old made = (ch : ℕ) → ch < layout.count → channel layout.max made ch ≡ channel layout.max old ch
