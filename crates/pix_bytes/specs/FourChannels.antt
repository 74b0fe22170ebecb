-- Pixels of any format as four channels.
use Rattle.std.specs.Prelude.{ℕ, List, [], ◌∷◌}
use Rattle.pix_bytes.specs.declared.bitmap.four_channels.FourChannels.{FourChannels}

-- the numbers of the four channels
abbrev pub as_list : {C : Type 0} → (C → ℕ) → FourChannels C → List ℕ
as_list number pixel = number pixel.one ∷ number pixel.two ∷ number pixel.three ∷ number pixel.four ∷ []
