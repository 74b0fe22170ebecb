-- Windows of a picture: parts of it that lie in memory by themselves, and commands on the picture
-- as seen from one.
use Rattle.std.specs.Prelude.{◌≡◌, ℕ, pos, ◌+◌, ◌-ℤ◌, ◌<◌, ◌≤◌, List}
use Rattle.pix_raster.specs.Region.{Rectangle}
use Rattle.pix_raster.specs.Image.{Image, point}
use Rattle.pix_raster.specs.declared.command.Command.{Command}
use Rattle.pix_raster.specs.declared.command.Command.TheVariants as commands

-- the image is the part of a picture whose first pixel is that of the picture's point (left, top)
pub record IsPartOf {P : Type 0} (numbers : P → List ℕ) (image : Image P) (left top : ℕ) (picture : Image P) : Type 0 where
  pub across : left + image.width ≤ picture.width
  pub down : top + image.height ≤ picture.height
  pub points : (x y : ℕ) → x < image.width → y < image.height → point numbers image x y ≡ point numbers picture (left + x) (top + y)

-- a rectangle of a picture, as seen from the picture's point (left, top): its coordinates there may
-- be any whole numbers
abbrev pub seen_from : ℕ → ℕ → Rectangle → Rectangle
seen_from left top r = record { left = r.left -ℤ pos left; top = r.top -ℤ pos top; width = r.width; height = r.height }

-- a command on a picture, as seen from there
abbrev pub command_from : {D M : Type 0} → ℕ → ℕ → Command D M → Command D M
command_from left top commands.Clear = commands.Clear
command_from left top (commands.CopyColor reg clr) = commands.CopyColor (seen_from left top reg) clr
command_from left top (commands.CopyRaster to src from) = commands.CopyRaster (seen_from left top to) src from
command_from left top (commands.Color reg clr op) = commands.Color (seen_from left top reg) clr op
command_from left top (commands.Raster to src from op) = commands.Raster (seen_from left top to) src from op
command_from left top (commands.Matte to src from clr op) = commands.Matte (seen_from left top to) src from clr op
command_from left top (commands.RasterMatte to src from mask mask_from op) = commands.RasterMatte (seen_from left top to) src from mask mask_from op
command_from left top (commands.RasterAlpha to src from alpha op) = commands.RasterAlpha (seen_from left top to) src from alpha op
