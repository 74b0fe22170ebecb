-- The format `Rgba8p` of the callers, as their contracts read it.
use Rattle.std.specs.Prelude.{ℕ, List, map}
use Rattle.pix_chan.specs.declared.chan.bits8.Ch8.{Ch8}
use Rattle.pix_chan.specs.declared.chan.modes.Linear.{Linear}
use Rattle.pix_chan.specs.declared.chan.modes.Premultiplied.{Premultiplied}
use Rattle.pix_el.specs.declared.el.Pix.{Pix}
use Rattle.pix_el.specs.declared.matte.Matte.{Matte}
use Rattle.pix_el.specs.declared.rgb.Rgb.{Rgb}
use Rattle.pix_el.specs.Pixel.{Layout}

-- its layout: four channels of eight bits, of which none is a hue and the last is the alpha
abbrev pub rgba8 : Layout
rgba8 = record { max = 255; count = 4; hues = record { start = 0; end = 0 }; alpha = 3 }

-- a pixel of the format
abbrev pub Rgba : Type 0
Rgba = Pix 4 Ch8 Rgb Premultiplied Linear

-- the numbers of a pixel: red, green, blue and alpha
abbrev pub numbers : Pix 4 Ch8 Rgb Premultiplied Linear → List ℕ
numbers pixel = map (λ channel. channel.value) pixel.channels

-- the number of a matte
abbrev pub mattes : Pix 1 Ch8 Matte Premultiplied Linear → List ℕ
mattes matte = map (λ channel. channel.value) matte.channels
