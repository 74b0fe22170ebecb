-- Colors of rasters as colors of a table.
use Rattle.std.specs.Prelude.{ℕ, List, map}
use Rattle.pix_chan.specs.declared.chan.bits8.Ch8.{Ch8}
use Rattle.pix_chan.specs.declared.chan.modes.Srgb.{Srgb}
use Rattle.pix_chan.specs.declared.chan.modes.Straight.{Straight}
use Rattle.pix_el.specs.declared.el.Pix.{Pix}
use Rattle.pix_el.specs.declared.rgb.Rgb.{Rgb}

-- red, green and blue of eight bits each, in sRGB
abbrev pub SrgbColor : Type 0
SrgbColor = Pix 3 Ch8 Rgb Straight Srgb

-- its numbers
abbrev pub srgb_numbers : Pix 3 Ch8 Rgb Straight Srgb → List ℕ
srgb_numbers color = map (λ channel. channel.value) color.channels

-- the numbers of a pixel of red, green, blue and alpha of eight bits each, in sRGB, not multiplied
-- by the alpha
abbrev pub srgba_numbers : Pix 4 Ch8 Rgb Straight Srgb → List ℕ
srgba_numbers pixel = map (λ channel. channel.value) pixel.channels
