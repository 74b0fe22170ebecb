-- The code's images as pictures, and what its commands on rasters bring. No clause of a public call
-- cites this file.
use Rattle.std.specs.Prelude.{◌≡◌, ◌<◌, ℕ, List, [], Bool, true, false, Option, Some, None}
use Rattle.pix_raster.specs.Region.{Rectangle}
use Rattle.pix_raster.specs.Image.{Image, point}
use Rattle.pix_raster.specs.declared.command.Command.{Command}
use Rattle.pix_raster.specs.Run.{Effect, effect_at}
use Rattle.pix_script.specs.declared.command.Line.{Line}
use Rattle.pix_script.specs.declared.command.Line.TheVariants as forms
use Rattle.pix_script.specs.Picture.{Picture, effect_of}
use Rattle.pix_script.specs.Pixels.{Rgba8p, Matte8, color_numbers}

-- whether a command keeps the image
abbrev pub keeps : Line → Bool
keeps forms.Keep = true
keeps line = false

-- whether a command makes every pixel clear
abbrev pub clears : Line → Bool
clears forms.Clear = true
clears line = false

-- the picture of an image
abbrev pub picture_of : Image Rgba8p → Picture
picture_of image = record { width = image.width; height = image.height; at = point color_numbers image }

-- effects at each point: of a pixel reader for mattes, of the rectangle of all points, and of the
-- point
abbrev pub Effects : Type 0
Effects = (Matte8 → List ℕ) → Rectangle → ℕ → ℕ → List Effect

-- what a command on a raster brings to each point
abbrev pub brought_by : Command Rgba8p Matte8 → Effects
brought_by command mattes all x y = effect_at color_numbers mattes all command x y

-- what a command of the script brings to each point, where this image is kept
abbrev pub effects_of : Image Rgba8p → Line → Effects
effects_of kept line mattes all x y = effect_of (picture_of kept) all x y line

-- the command on a raster brings to each point what that of the script brings, where this image is
-- kept; without one, nothing does
abbrev pub Draws : Image Rgba8p → Line → Option (Command Rgba8p Matte8) → Type 0
Draws kept line (Some command) = brought_by command ≡ effects_of kept line
Draws kept line None = effects_of kept line ≡ (λ mattes all x y. [])

-- the image has the picture's sides, and at each of its points the picture's pixel
pub record Shows (image : Image Rgba8p) (picture : Picture) : Type 0 where
  pub same_width : image.width ≡ picture.width
  pub same_height : image.height ≡ picture.height
  pub points : (x y : ℕ) → x < picture.width → y < picture.height → point color_numbers image x y ≡ picture.at x y
