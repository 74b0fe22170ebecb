-- The library's pixels of eight bits, as their numbers.
use Rattle.std.specs.Prelude.{ℕ, List, map}
use Rattle.pix_chan.specs.declared.chan.bits8.Ch8.{Ch8}
use Rattle.pix_chan.specs.declared.chan.modes.Linear.{Linear}
use Rattle.pix_chan.specs.declared.chan.modes.Premultiplied.{Premultiplied}
use Rattle.pix_el.specs.declared.el.Pix.{Pix}
use Rattle.pix_el.specs.declared.matte.Matte.{Matte}
use Rattle.pix_el.specs.declared.rgb.Rgb.{Rgb}

-- a pixel of red, green, blue and alpha
abbrev pub Rgba8p : Type 0
Rgba8p = Pix 4 Ch8 Rgb Premultiplied Linear

-- a matte value
abbrev pub Matte8 : Type 0
Matte8 = Pix 1 Ch8 Matte Premultiplied Linear

-- the numbers of a pixel: red, green, blue and alpha
unfoldable pub color_numbers : Rgba8p → List ℕ
color_numbers pixel = map (λ channel. channel.value) pixel.channels
