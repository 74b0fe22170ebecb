-- Rectangles of points.
use Rattle.std.specs.Prelude.{ℕ, ℤ, pos, ◌+ℤ◌, Bool, ◌&&◌, not, int_lt, if◌then◌else◌}
use Rattle.std.specs.Int.{int_min, int_max, int_gap}

-- a rectangle of points: its left and top coordinates and its sides
pub record Rectangle : Type 0 where
  pub left : ℤ
  pub top : ℤ
  pub width : ℕ
  pub height : ℕ

-- the greatest side, and the greatest coordinate
abbrev pub limit : ℕ
limit = 2147483647

-- the first column to the right of the rectangle, at most 2147483647
abbrev pub right : Rectangle → ℤ
right r = int_min (r.left +ℤ pos r.width) (pos limit)

-- the first row below the rectangle, at most 2147483647
abbrev pub bottom : Rectangle → ℤ
bottom r = int_min (r.top +ℤ pos r.height) (pos limit)

-- whether the column is one of the rectangle's
abbrev pub has_column : Rectangle → ℤ → Bool
has_column r x = not (int_lt x r.left) && int_lt x (right r)

-- whether the row is one of the rectangle's
abbrev pub has_row : Rectangle → ℤ → Bool
has_row r y = not (int_lt y r.top) && int_lt y (bottom r)

-- whether the point is one of the rectangle's
abbrev pub covers : Rectangle → ℤ → ℤ → Bool
covers r x y = has_column r x && has_row r y

-- the rectangle of all points of a raster of that width and height
abbrev pub whole : ℕ → ℕ → Rectangle
whole width height = record { left = pos 0; top = pos 0; width = width; height = height }

-- the rectangle that stands for no points
abbrev pub no_points : Rectangle
no_points = record { left = pos 0; top = pos 0; width = 0; height = 0 }

-- the rectangle between two columns and two rows, or `no_points` where nothing lies between them
abbrev pub between : ℤ → ℤ → ℤ → ℤ → Rectangle
between left top right bottom =
    if int_lt left right && int_lt top bottom
    then record { left = left; top = top; width = int_gap left right; height = int_gap top bottom }
    else no_points

-- the points that two rectangles share
abbrev pub intersection_of : Rectangle → Rectangle → Rectangle
intersection_of r s = between (int_max r.left s.left) (int_max r.top s.top) (int_min (right r) (right s)) (int_min (bottom r) (bottom s))
