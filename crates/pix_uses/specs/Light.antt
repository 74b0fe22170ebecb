-- Which straight sRGB pixels of eight bits come back from premultiplied light of sixteen.
use Rattle.std.specs.Prelude.{ℕ, ◌≡◌, ◌≤◌, ◌⊎◌, List, All}
use Rattle.pix_el.specs.Pixel.{channel}

-- a pixel, from the channel number of the alpha and its channels: the alpha is thirteen or more, or
-- all channels are 0
abbrev pub IsSeenOrClear : ℕ → List ℕ → Type 0
IsSeenOrClear alpha pixel = (13 ≤ channel 255 pixel alpha) ⊎ All (λ x. x ≡ 0) pixel
