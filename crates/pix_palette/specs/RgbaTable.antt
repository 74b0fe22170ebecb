-- Tables of colors with an alpha.
use Rattle.std.specs.Prelude.{◌≡◌, ℕ, List}
use Rattle.pix_el.specs.declared.el.Pix.{Pix}
use Rattle.pix_chan.specs.declared.chan.bits8.Ch8.{Ch8}
use Rattle.pix_chan.specs.declared.chan.modes.Srgb.{Srgb}
use Rattle.pix_chan.specs.declared.chan.modes.Straight.{Straight}
use Rattle.pix_el.specs.declared.rgb.Rgb.{Rgb}
use Rattle.pix_table.specs.packing.LookUp.{AreLookedUp}
use Rattle.pix_raster.specs.Image.{Image}
use Rattle.pix_palette.specs.declared.palette.rgba_table.RgbaTable.{RgbaTable}

-- a color with an alpha: red, green, blue and alpha of eight bits each, in sRGB, not multiplied
abbrev pub RgbaPixel : Type 0
RgbaPixel = Pix 4 Ch8 Rgb Straight Srgb

-- the colors of a table, in order
abbrev pub colors_of_table : RgbaTable → List RgbaPixel
colors_of_table table = table.entries.items

-- the image of the entries of indices
pub record IsRgbaLookedUp (entries : List RgbaPixel) (width height : ℕ) (indices : List ℕ) (image : Image RgbaPixel) : Type 0 where
  pub wide : image.width ≡ width
  pub high : image.height ≡ height
  pub colors : AreLookedUp entries indices image.pixels
