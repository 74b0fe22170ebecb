-- Photographs stored as sRGB, as the contracts of the callers read them.
use Rattle.std.specs.Prelude.{ℕ, List, map}
use Rattle.pix_chan.specs.declared.chan.bits8.Ch8.{Ch8}
use Rattle.pix_chan.specs.declared.chan.bits16.Ch16.{Ch16}
use Rattle.pix_chan.specs.declared.chan.modes.Linear.{Linear}
use Rattle.pix_chan.specs.declared.chan.modes.Premultiplied.{Premultiplied}
use Rattle.pix_chan.specs.declared.chan.modes.Srgb.{Srgb}
use Rattle.pix_chan.specs.declared.chan.modes.Straight.{Straight}
use Rattle.pix_ops.specs.declared.ops.Op.TheVariants.{SrcOver}
use Rattle.pix_chan.specs.Modes as modes
use Rattle.pix_el.specs.declared.el.Pix.{Pix}
use Rattle.pix_el.specs.declared.rgb.Rgb.{Rgb}
use Rattle.pix_el.specs.Color.{rgb_itself}
use Rattle.pix_el.specs.PixelComposite.{pixel_composite}
use Rattle.pix_el.specs.Pixel.{Layout}
use Rattle.pix_el.specs.Conversion.{Format}
use Rattle.pix_el.specs.Light.{in_light, as_srgb}

-- the numbers of a pixel of a photograph: red, green and blue
abbrev pub colors : Pix 3 Ch8 Rgb Straight Srgb → List ℕ
colors pixel = map (λ channel. channel.value) pixel.channels

-- a pixel of `Rgba16p`, and its numbers: red, green, blue and alpha
abbrev pub LightPixel : Type 0
LightPixel = Pix 4 Ch16 Rgb Premultiplied Linear

abbrev pub light_numbers : Pix 4 Ch16 Rgb Premultiplied Linear → List ℕ
light_numbers pixel = map (λ channel. channel.value) pixel.channels

-- the layout of `Rgba16p`: four channels of sixteen bits, of which none is a hue and the last is
-- the alpha
abbrev pub rgba16 : Layout
rgba16 = record { max = 65535; count = 4; hues = record { start = 0; end = 0 }; alpha = 3 }

-- the format `Rgba16p` without its gamma mode
abbrev pub rgba16p : Format
rgba16p = record {
  layout = rgba16;
  kind = 0;
  colors = record { start = 0; end = 3 };
  to_rgb = rgb_itself;
  of_rgb = rgb_itself;
  alpha_mode = modes.Premultiplied;
}

-- the format `SRgb8` without its gamma mode
abbrev pub srgb8 : Format
srgb8 = record rgba16p { layout = record rgba16 { max = 255; count = 3 }; alpha_mode = modes.Straight }

-- a pixel of a photograph with a color composited over it: decoded to linear light of sixteen bits,
-- composited there, and encoded again
abbrev pub glazed : List ℕ → List ℕ → List ℕ
glazed glaze pixel = as_srgb rgba16p srgb8 (pixel_composite rgba16 SrcOver glaze (in_light srgb8 rgba16p pixel))
