-- How the words after a command's name are read.
use Rattle.std.specs.Prelude.{ℕ, List, [], ◌∷◌, Option, Some, None}
use Rattle.pix_raster.specs.Region.{Rectangle}
use Rattle.pix_script.specs.declared.command.Line.{Line}
use Rattle.pix_script.specs.declared.command.Line.TheVariants.{Image, Fill, Paint, Copy, Comp}
use Rattle.pix_script.specs.Numbers.{side_of, coordinate_of, color_of, ◌>>=◌}
use Rattle.pix_ops.specs.OperatorNames.{operator_of}

-- a region by its four words
unfoldable pub rectangle_of : List ℕ → List ℕ → List ℕ → List ℕ → Option Rectangle
rectangle_of x y w h = do
  left ← coordinate_of x
  top ← coordinate_of y
  width ← side_of w
  height ← side_of h
  Some (record { left = left; top = top; width = width; height = height })

-- image WIDTH HEIGHT
unfoldable pub image_of : List (List ℕ) → Option Line
image_of (w ∷ h ∷ []) = do
  width ← side_of w
  height ← side_of h
  Some (Image width height)
image_of _ = None

-- fill LEFT TOP WIDTH HEIGHT COLOR
unfoldable pub fill_of : List (List ℕ) → Option Line
fill_of (x ∷ y ∷ w ∷ h ∷ c ∷ []) = do
  reg ← rectangle_of x y w h
  color ← color_of c
  Some (Fill reg color)
fill_of _ = None

-- paint OPERATOR LEFT TOP WIDTH HEIGHT COLOR
unfoldable pub paint_of : List (List ℕ) → Option Line
paint_of (o ∷ x ∷ y ∷ w ∷ h ∷ c ∷ []) = do
  op ← operator_of o
  reg ← rectangle_of x y w h
  color ← color_of c
  Some (Paint op reg color)
paint_of _ = None

-- copy TO_LEFT TO_TOP FROM_LEFT FROM_TOP WIDTH HEIGHT
unfoldable pub copy_of : List (List ℕ) → Option Line
copy_of (tx ∷ ty ∷ fx ∷ fy ∷ w ∷ h ∷ []) = do
  to ← rectangle_of tx ty w h
  from ← rectangle_of fx fy w h
  Some (Copy to from)
copy_of _ = None

-- comp OPERATOR TO_LEFT TO_TOP FROM_LEFT FROM_TOP WIDTH HEIGHT
unfoldable pub comp_of : List (List ℕ) → Option Line
comp_of (o ∷ tx ∷ ty ∷ fx ∷ fy ∷ w ∷ h ∷ []) = do
  op ← operator_of o
  to ← rectangle_of tx ty w h
  from ← rectangle_of fx fy w h
  Some (Comp op to from)
comp_of _ = None
