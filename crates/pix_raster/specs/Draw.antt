-- Drawings of images in memory, as commands on images.
use Rattle.std.specs.Prelude.{ℕ, zero, suc, List, [], ◌++◌, take, drop, length, ⊤}
use denote.Bor.{Bor}
use Rattle.pix_ops.specs.declared.ops.Op.{Op}
use Rattle.pix_raster.specs.Image.{Image}
use Rattle.pix_raster.specs.View.{IsShaped}
use Rattle.pix_raster.specs.declared.command.Command.{Command}
use Rattle.pix_raster.specs.declared.command.Command.TheVariants as commands
use Rattle.pix_raster.specs.declared.view.masked.Source.{Source}
use Rattle.pix_raster.specs.declared.view.draw.Draw.{Draw}
use Rattle.pix_raster.specs.declared.view.draw.Draw.TheVariants as draws

-- the first `width` elements of each of `height` rows that start `stride` elements apart, one row
-- after the other
abbrev pub joined_rows : {D : Type 0} → ℕ → ℕ → ℕ → List D → List D
joined_rows width zero stride items = []
joined_rows width (suc height) stride items = take width items ++ joined_rows width height stride (drop stride items)

-- the image of that width and height in rows that start `stride` elements apart
abbrev pub image_of : {D : Type 0} → ℕ → ℕ → ℕ → List D → Image D
image_of width height stride items = record { width = width; height = height; pixels = joined_rows width height stride items }

-- an image as a source of a command
abbrev pub borrowed : {D : Type 0} → Image D → Bor (Image D)
borrowed image = record { ref_ptr = (0, 0); now = image }

-- the image that a source takes a region of
abbrev pub image_in : {D : Type 0} → Source D → Image D
image_in s = image_of s.shape.width s.shape.height s.shape.stride s.pixels.now

-- a drawing and its operator, as a command on images
abbrev pub command_in : {D M : Type 0} → Op → Draw D M → Command D M
command_in op draws.Clear = commands.Clear
command_in op (draws.CopyColor reg clr) = commands.CopyColor reg clr.now
command_in op (draws.CopyImage to src) = commands.CopyRaster to (borrowed (image_in src)) src.from
command_in op (draws.Color reg clr) = commands.Color reg clr.now op
command_in op (draws.Image to src) = commands.Raster to (borrowed (image_in src)) src.from op
command_in op (draws.Matte to src clr) = commands.Matte to (borrowed (image_in src)) src.from clr.now op
command_in op (draws.ImageMatte to src mask) = commands.RasterMatte to (borrowed (image_in src)) src.from (borrowed (image_in mask)) mask.from op
command_in op (draws.ImageAlpha to src alpha) = commands.RasterAlpha to (borrowed (image_in src)) src.from alpha.now op

-- a command, wherever in memory its sources are
abbrev pub unplaced : {D M : Type 0} → Command D M → Command D M
unplaced commands.Clear = commands.Clear
unplaced (commands.CopyColor reg clr) = commands.CopyColor reg clr
unplaced (commands.CopyRaster to src from) = commands.CopyRaster to (borrowed src.now) from
unplaced (commands.Color reg clr op) = commands.Color reg clr op
unplaced (commands.Raster to src from op) = commands.Raster to (borrowed src.now) from op
unplaced (commands.Matte to src from clr op) = commands.Matte to (borrowed src.now) from clr op
unplaced (commands.RasterMatte to src from mask mask_from op) = commands.RasterMatte to (borrowed src.now) from (borrowed mask.now) mask_from op
unplaced (commands.RasterAlpha to src from alpha op) = commands.RasterAlpha to (borrowed src.now) from alpha op

-- the rows of a source lie in its pixels
abbrev pub IsSource : {D : Type 0} → Source D → Type 0
IsSource s = IsShaped s.shape (length s.pixels.now)

-- the rows of each source of a drawing do
abbrev pub IsSound : {D M : Type 0} → Draw D M → Type 0
IsSound draws.Clear = ⊤
IsSound (draws.CopyColor reg clr) = ⊤
IsSound (draws.CopyImage to src) = IsSource src
IsSound (draws.Color reg clr) = ⊤
IsSound (draws.Image to src) = IsSource src
IsSound (draws.Matte to src clr) = IsSource src
IsSound (draws.ImageMatte to src mask) = IsSource src × IsSource mask
IsSound (draws.ImageAlpha to src alpha) = IsSource src
