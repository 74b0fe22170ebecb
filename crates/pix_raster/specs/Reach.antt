-- Which points of two rasters belong together, where a region of the one is copied to a region of
-- the other.
use Rattle.std.specs.Prelude.{ℕ, ℤ, pos, negsuc, ◌+ℤ◌, ◌-ℤ◌, Bool, ◌&&◌, not, int_lt, if◌then◌else◌, List, [], ◌∷◌}
use Rattle.pix_raster.specs.Region.{Rectangle, covers}

-- whether the number is at least 0 and below n
abbrev pub is_below : ℕ → ℤ → Bool
is_below n i = not (int_lt i (pos 0)) && int_lt i (pos n)

-- whether the offset lies below the width and the height of the rectangle
abbrev pub has_offset : Rectangle → ℤ → ℤ → Bool
has_offset r i j = is_below r.width i && is_below r.height j

-- whether the offset leads from the corner of the rectangle to one of its points that lies in the
-- raster
abbrev pub leads_into : Rectangle → Rectangle → ℤ → ℤ → Bool
leads_into r raster i j = covers r (r.left +ℤ i) (r.top +ℤ j) && covers raster (r.left +ℤ i) (r.top +ℤ j)

-- Whether the offset (i, j) is paired: it lies below the sides of both rectangles, its point of
-- `to` lies in the destination, and its point of `from` in the source. `dest` and `source` are the
-- rectangles of all points of the two rasters.
abbrev pub is_paired : (to dest from source : Rectangle) → ℤ → ℤ → Bool
is_paired to dest from source i j =
    (has_offset to i j && has_offset from i j) && (leads_into to dest i j && leads_into from source i j)

-- a whole number that is not negative, and 0 in place of one that is
abbrev pub natural : ℤ → ℕ
natural (pos n) = n
natural (negsuc n) = 0

-- what the point (x, y) of the destination gets from the point of the source that it is paired
-- with, and nothing where it has none
abbrev pub from_pair : {X : Type 0} → (to dest from source : Rectangle) → (ℕ → ℕ → X) → ℕ → ℕ → List X
from_pair to dest from source get x y =
    if is_paired to dest from source (pos x -ℤ to.left) (pos y -ℤ to.top)
    then get (natural (from.left +ℤ (pos x -ℤ to.left))) (natural (from.top +ℤ (pos y -ℤ to.top))) ∷ []
    else []
