-- An image after a part of it was written over.
use Rattle.std.specs.Prelude.{◌≡◌, ℕ, ◌+◌, ◌-◌, ◌*◌, ◌<◌, nat_eq, nat_lt, nat_le, ℤ, true, ◌&&◌, List, ◌++◌, length, take, drop, slice_index_or, slice_set, if◌then◌else◌}
use Rattle.std.specs.List.{refill}
use Rattle.pix_raster.specs.Region.{Rectangle, has_row}
use Rattle.pix_raster.specs.Image.{Image}
use Rattle.pix_raster.specs.Reach.{natural}
use Rattle.pix_raster.specs.Rows.{clipped, row_of}

-- the place of a point in an image's list
abbrev pub place_of : {P : Type 0} → Image P → ℤ → ℤ → ℕ
place_of image x y = natural y * image.width + natural x

-- the image with another pixel at place k of its list
abbrev pub with_pixel : {P : Type 0} → Image P → ℕ → P → Image P
with_pixel image k p = record { width = image.width; height = image.height; pixels = slice_set image.pixels k p }

-- the image with other pixels, as many as it had
abbrev pub with_pixels : {P : Type 0} → Image P → List P → Image P
with_pixels image ps = record { width = image.width; height = image.height; pixels = refill (length image.pixels) image.pixels ps }

-- the image with ws written over as many pixels from place a of its list on; its size stays
abbrev pub with_run : {P : Type 0} → Image P → ℕ → List P → Image P
with_run image a ws = with_pixels image (take a image.pixels ++ (ws ++ drop (length ws) (drop a image.pixels)))

-- the new image is as large as the old one, has ws in row y from column x on, and at each other
-- point what the old one has
pub record IsWritten {P : Type 0} (old new : Image P) (ws : List P) (x y : ℕ) : Type 0 where
  pub same_width : new.width ≡ old.width
  pub same_height : new.height ≡ old.height
  pub points : (default : P) (column row : ℕ) → column < old.width → slice_index_or new.pixels (row * old.width + column) default
      ≡ (if nat_eq row y && (nat_le x column && nat_lt column (x + length ws))
      then slice_index_or ws (column - x) default
      else slice_index_or old.pixels (row * old.width + column) default)

-- the slice has the pixels of the points that a rectangle has in row y of an image, and as many
-- others that are written over them stand at those points and nowhere else
pub record IsRow {P : Type 0} (image : Image P) (r : Rectangle) (y : ℤ) (row : List P) : Type 0 where
  pub there : has_row (clipped image r) y ≡ true
  pub now : row ≡ row_of image (clipped image r) (natural y)
  pub written : (ws : List P) → length ws ≡ length row
      → IsWritten image (with_run image (place_of image (clipped image r).left y) ws) ws (natural (clipped image r).left) (natural y)
