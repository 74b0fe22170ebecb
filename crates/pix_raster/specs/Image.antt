-- Images: a pixel at each point, listed row by row.
use Rattle.std.specs.Prelude.{◌≡◌, ℕ, ◌+◌, ◌*◌, ◌<◌, ℤ, pos, ◌≤ℤ◌, ◌<ℤ◌, List, [], map, slice_index_or}
use Rattle.pix_raster.specs.Region.{Rectangle, right, bottom, whole}

-- an image: the pixel of the point (x, y), for x < width and y < height, is in its list at place
-- y * width + x
pub record Image (P : Type 0) : Type 0 where
  pub width : ℕ
  pub height : ℕ
  pub pixels : List P

-- the numbers of the pixel at a point; `numbers` reads a pixel
abbrev pub point : {P : Type 0} → (P → List ℕ) → Image P → ℕ → ℕ → List ℕ
point numbers image x y = slice_index_or (map numbers image.pixels) (y * image.width + x) []

-- the coordinates are those of a point of the image
pub record IsPoint {P : Type 0} (image : Image P) (x y : ℤ) : Type 0 where
  pub left : pos 0 ≤ℤ x
  pub top : pos 0 ≤ℤ y
  pub right : x <ℤ pos image.width
  pub bottom : y <ℤ pos image.height

-- the rectangle of all points of an image
abbrev pub region_of : {P : Type 0} → Image P → Rectangle
region_of image = whole image.width image.height

-- no side of the rectangle lies outside the image
pub record IsInside {P : Type 0} (r : Rectangle) (image : Image P) : Type 0 where
  pub left : pos 0 ≤ℤ r.left
  pub top : pos 0 ≤ℤ r.top
  pub right : right r ≤ℤ pos image.width
  pub bottom : bottom r ≤ℤ pos image.height

-- the new image is as large as the old one, and has at each point f of the point and of what stood
-- there
pub record Changed {P : Type 0} (numbers : P → List ℕ) (old new : Image P) (f : ℕ → ℕ → List ℕ → List ℕ) : Type 0 where
  pub same_width : new.width ≡ old.width
  pub same_height : new.height ≡ old.height
  pub points : (x y : ℕ) → x < old.width → y < old.height → point numbers new x y ≡ f x y (point numbers old x y)
