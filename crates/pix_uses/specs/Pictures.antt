-- Points of pictures, as the contracts of the callers read them.
use Rattle.std.specs.Prelude.{ℕ, ℤ, pos, Bool}
use Rattle.pix.specs.Region.{Rectangle, covers}
use Rattle.pix.specs.Image.{Image, region_of}

-- whether (x, y) is a point of the picture
abbrev pub has_point : {P : Type 0} → Image P → ℕ → ℕ → Bool
has_point picture x y = covers (region_of picture) (pos x) (pos y)

-- the region that a picture takes up with its corner at (x, y)
abbrev pub placed_at : {P : Type 0} → ℤ → ℤ → Image P → Rectangle
placed_at x y picture = record { left = x; top = y; width = picture.width; height = picture.height }
