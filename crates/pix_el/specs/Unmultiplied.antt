-- Premultiplied pixels of four channels as straight ones. No public clause cites this file.
use Rattle.std.specs.Prelude.{ℕ, List, [], ◌∷◌}
use Rattle.pix_chan.specs.Product.{channel_quotient}
use Rattle.pix_el.specs.Pixel.{channel}

-- a premultiplied pixel of four channels, straight
abbrev pub unmultiplied_four : ℕ → List ℕ → List ℕ
unmultiplied_four max pixel =
    channel_quotient max (channel max pixel 0) (channel max pixel 3) ∷ channel_quotient max (channel max pixel 1) (channel max pixel 3)
    ∷ channel_quotient max (channel max pixel 2) (channel max pixel 3) ∷ channel max pixel 3 ∷ []
