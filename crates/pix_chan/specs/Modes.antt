-- The alpha modes and the gamma modes, and how each stores a color channel.
use Rattle.std.specs.Prelude.{ℕ}
use Rattle.pix_chan.specs.Product.{channel_product, channel_quotient}
use Rattle.pix_chan.specs.Srgb.{srgb_encoded, srgb_decoded}

-- color channels as they are, or multiplied by the alpha
pub data AlphaMode : Type 0 where
  Straight : AlphaMode
  Premultiplied : AlphaMode

-- the `KIND` of each alpha mode
abbrev pub alpha_kind : AlphaMode → ℕ
alpha_kind Straight = 0
alpha_kind Premultiplied = 1

-- a straight channel as a mode stores it at an alpha: premultiplied is the product of both
abbrev pub alpha_encoded : AlphaMode → ℕ → ℕ → ℕ → ℕ
alpha_encoded Straight max channel alpha = channel
alpha_encoded Premultiplied max channel alpha = channel_product max channel alpha

-- the straight channel of one that a mode stores at an alpha: of premultiplied the quotient of both
abbrev pub alpha_decoded : AlphaMode → ℕ → ℕ → ℕ → ℕ
alpha_decoded Straight max channel alpha = channel
alpha_decoded Premultiplied max channel alpha = channel_quotient max channel alpha

-- channels proportional to light, or encoded by the sRGB curve
pub data GammaMode : Type 0 where
  Linear : GammaMode
  Srgb : GammaMode

-- the `KIND` of each gamma mode
abbrev pub gamma_kind : GammaMode → ℕ
gamma_kind Linear = 0
gamma_kind Srgb = 1

-- the linear channel of one that a mode encodes
abbrev pub to_linear : GammaMode → ℕ → ℕ
to_linear Linear channel = channel
to_linear Srgb channel = srgb_decoded channel

-- a linear channel as a mode encodes it
abbrev pub from_linear : GammaMode → ℕ → ℕ
from_linear Linear channel = channel
from_linear Srgb channel = srgb_encoded channel
