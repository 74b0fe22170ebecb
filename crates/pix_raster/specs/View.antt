-- Images in memory that the caller owns: rows of pixels that lie a stride apart, and a change of
-- them at each point.
use Rattle.std.specs.Prelude.{◌≡◌, ◌≢◌, ℕ, pos, ◌+◌, ◌*◌, ◌<◌, ◌≤◌, List, [], map, fold, slice_index_or, if◌then◌else◌}
use Rattle.std.specs.List.{zip}
use Rattle.pix_raster.specs.Region.{Rectangle, limit, covers, whole}
use Rattle.pix_raster.specs.Reach.{from_pair}
use Rattle.pix_raster.specs.declared.view.Shape.{Shape}
use Rattle.pix_raster.specs.declared.view.Window.{Window}

-- the numbers of the pixel at the point (x, y) of rows that lie `stride` pixels apart; `reads`
-- reads a pixel
abbrev pub read_at : {D : Type 0} → (D → List ℕ) → ℕ → List D → ℕ → ℕ → List ℕ
read_at reads stride pixels x y = slice_index_or (map reads pixels) (y * stride + x) []

-- no side is above the limit, rows do not overlap, and all of them lie in a number of pixels; none
-- is needed after the last row
pub record IsShaped (shape : Shape) (count : ℕ) : Type 0 where
  pub wide : shape.width ≤ limit
  pub high : shape.height ≤ limit
  pub apart : shape.width ≤ shape.stride
  pub last : (y : ℕ) → y < shape.height → y * shape.stride + shape.width ≤ count

-- the rows of a window lie in a number of pixels, and no point of it lies past the greatest
-- coordinate
pub record IsWindow (window : Window) (count : ℕ) : Type 0 where
  pub shaped : IsShaped window.shape count
  pub across : window.left + window.shape.width ≤ limit
  pub down : window.top + window.shape.height ≤ limit

-- the smallest picture that has the window
abbrev pub picture : Window → Rectangle
picture window = whole (window.left + window.shape.width) (window.top + window.shape.height)

-- the largest picture
abbrev pub largest : Rectangle
largest = whole limit limit

-- f at the point of the picture that lies at a point of the window
abbrev pub in_window : {X : Type 0} → Window → (ℕ → ℕ → X) → ℕ → ℕ → X
in_window window f x y = f (window.left + x) (window.top + y)

-- the place is that of no point of an image: it lies between two rows or after the last
abbrev pub IsNoPoint : Shape → ℕ → Type 0
IsNoPoint shape place = (x y : ℕ) → x < shape.width → y < shape.height → y * shape.stride + x ≢ place

-- at each point of the image the new pixels have f of the point and of what stood there; at every
-- other place, what stood there
pub record ChangedIn {D : Type 0} (reads : D → List ℕ) (shape : Shape) (old new : List D) (f : ℕ → ℕ → List ℕ → List ℕ) : Type 0 where
  pub points : (x y : ℕ) → x < shape.width → y < shape.height
      → read_at reads shape.stride new x y ≡ f x y (read_at reads shape.stride old x y)
  pub stays : (place : ℕ) → IsNoPoint shape place → slice_index_or (map reads new) place [] ≡ slice_index_or (map reads old) place []

-- f of what stands at each point of a rectangle, and what stands elsewhere
abbrev pub where_covered : {X : Type 0} → Rectangle → (X → X) → ℕ → ℕ → X → X
where_covered r f x y pixel = if covers r (pos x) (pos y) then f pixel else pixel

-- f of what the source has at the point that a point is paired with and of what stands there, and
-- what stands elsewhere
abbrev pub where_paired : (to dest from source : Rectangle) → (ℕ → ℕ → List ℕ) → (List ℕ → List ℕ → List ℕ) → ℕ → ℕ → List ℕ → List ℕ
where_paired to dest from source get f x y pixel = fold (λ p source. f source p) pixel (from_pair to dest from source get x y)

-- f of what a mask and a source have at the points that a point is paired with and of what stands
-- there, where it is paired in both, and what stands elsewhere
abbrev pub where_masked : (to dest from source mask_from mask : Rectangle) → (get get_mask : ℕ → ℕ → List ℕ) → (List ℕ → List ℕ → List ℕ → List ℕ)
    → ℕ → ℕ → List ℕ → List ℕ
where_masked to dest from source mask_from mask get get_mask f x y pixel =
    fold (λ p t. f t.0 t.1 p) pixel (zip (from_pair to dest mask_from mask get_mask x y) (from_pair to dest from source get x y))
