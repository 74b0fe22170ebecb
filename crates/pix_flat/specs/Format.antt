-- Pixels and mattes as C lays them out, by the numbers of their channels.
use Rattle.std.specs.Prelude.{ℕ, ◌*◌, List, [], ◌∷◌, map, min}
use Rattle.pix_el.specs.Pixel.{Layout}
use Rattle.pix_el.specs.Model.{Model, Rgb, Gray, row}
use Rattle.pix_flat.specs.declared.format.PixRgba8.{PixRgba8}
use Rattle.pix_flat.specs.declared.format.PixRgba16.{PixRgba16}
use Rattle.pix_flat.specs.declared.format.PixGraya8.{PixGraya8}
use Rattle.pix_flat.specs.declared.format.PixMatte8.{PixMatte8}

-- the channels of an 8-bit pixel or matte: each is at most 255 in memory, and here for any number
abbrev pub bytes : List ℕ → List ℕ
bytes channels = map (λ n. min n 255) channels

-- the same of 16 bits
abbrev pub words : List ℕ → List ℕ
words channels = map (λ n. min n 65535) channels

-- the numbers of a pixel's channels, for each format
abbrev pub rgba8_numbers : PixRgba8 → List ℕ
rgba8_numbers pixel = bytes pixel.channels

abbrev pub rgba16_numbers : PixRgba16 → List ℕ
rgba16_numbers pixel = words pixel.channels

abbrev pub graya8_numbers : PixGraya8 → List ℕ
graya8_numbers pixel = bytes pixel.channels

-- the number of a matte's channel, of 8 and of 16 bits
abbrev pub matte8_numbers : ℕ → List ℕ
matte8_numbers value = bytes (value ∷ [])

abbrev pub matte16_numbers : ℕ → List ℕ
matte16_numbers value = words (value ∷ [])

-- a matte of 8 bits as one of 16: the same fraction of the maximum, since 65535 is 257 * 255
abbrev pub widened : PixMatte8 → ℕ
widened matte = 257 * matte.value

-- the number of its channel in 16 bits
abbrev pub widened_numbers : PixMatte8 → List ℕ
widened_numbers matte = matte16_numbers (widened matte)

-- the layout of so many channels up to a maximum, as a color model has them
abbrev pub layout_of : (max count : ℕ) → Model → Layout
layout_of max count model = record { max = max; count = count; hues = (row model).hues; alpha = (row model).alpha }

-- the layouts of the pixels: red, green, blue and alpha of 8 and of 16 bits, and gray and alpha of
-- 8 bits
abbrev pub rgba8 : Layout
rgba8 = layout_of 255 4 Rgb

abbrev pub rgba16 : Layout
rgba16 = layout_of 65535 4 Rgb

abbrev pub graya8 : Layout
graya8 = layout_of 255 2 Gray
