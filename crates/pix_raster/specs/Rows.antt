-- The rows of the points of a rectangle that lie in an image.
use Rattle.std.specs.Prelude.{ℕ, ◌+◌, ◌*◌, List, map, take, drop}
use Rattle.std.specs.List.{range_with_len}
use Rattle.pix_raster.specs.Region.{Rectangle, intersection_of}
use Rattle.pix_raster.specs.Image.{Image, region_of}
use Rattle.pix_raster.specs.Reach.{natural}

-- the points of a rectangle that lie in an image
abbrev pub clipped : {P : Type 0} → Image P → Rectangle → Rectangle
clipped image r = intersection_of r (region_of image)

-- the pixels of row y between the left and the right side of a rectangle that lies in the image,
-- from left to right
abbrev pub row_of : {P : Type 0} → Image P → Rectangle → ℕ → List P
row_of image r y = take r.width (drop (y * image.width + natural r.left) image.pixels)

-- the rows of the points of a rectangle that lie in an image, from top to bottom: as many as those
-- points are high
abbrev pub rows_of : {P : Type 0} → Image P → Rectangle → List (List P)
rows_of image r = map (row_of image (clipped image r)) (range_with_len (natural (clipped image r).top) (clipped image r).height)
