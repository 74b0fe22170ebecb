-- Lists of pixels and of channel numbers that images are made of, and that are made of them.
use Rattle.std.specs.Prelude.{◌≡◌, ℕ, ◌*◌, List, Option, Some, None, if◌then◌else◌, nat_eq}
use Rattle.std.specs.List.{flat_map}
use Rattle.pix_raster.specs.Sizes.{size_fault}
use Rattle.pix_raster.specs.Image.{Image}
use Rattle.pix_raster.specs.declared.fault.RasterFault.{RasterFault}
use Rattle.pix_raster.specs.declared.fault.RasterFault.TheVariants.{EmptyBuffer, WrongLength}

-- the numbers of all channels of an image, pixel after pixel and of each its channels in order;
-- `numbers` reads a pixel
abbrev pub channels_of : {P : Type 0} → (P → List ℕ) → Image P → List ℕ
channels_of numbers image = flat_map numbers image.pixels

-- the image has that size, and its channels have these numbers, pixel after pixel and of each its
-- channels in order
pub record IsOfChannels {P : Type 0} (numbers : P → List ℕ) (width height : ℕ) (channels : List ℕ) (image : Image P) : Type 0 where
  pub same_width : image.width ≡ width
  pub same_height : image.height ≡ height
  pub same_channels : channels_of numbers image ≡ channels

-- the image has that size and these pixels, row by row
pub record IsOfPixels {P : Type 0} (width height : ℕ) (pixels : List P) (image : Image P) : Type 0 where
  pub same_width : image.width ≡ width
  pub same_height : image.height ≡ height
  pub same_pixels : image.pixels ≡ pixels

-- a fault, or the other one where there is none
abbrev pub or_else : Option RasterFault → Option RasterFault → Option RasterFault
or_else (Some fault) other = Some fault
or_else None other = other

-- a length that is not the one needed
abbrev pub length_fault : ℕ → ℕ → Option RasterFault
length_fault needed given = if nat_eq given needed then None else Some WrongLength

-- the first fault of as many pixels as given for an image of that size
abbrev pub pixels_fault : (width height given : ℕ) → Option RasterFault
pixels_fault width height given = or_else (size_fault width height) (length_fault (width * height) given)

-- the first fault of as many channel numbers as given for an image of that size whose pixels have
-- `count` channels each
abbrev pub buffer_fault : (count width height given : ℕ) → Option RasterFault
buffer_fault count width height given =
    or_else (size_fault width height) (if nat_eq (width * height) 0 then Some EmptyBuffer else length_fault (width * height * count) given)
