-- Columns, rows and overlaps in rasters, as the code finds and walks them. No clause of a public
-- call cites this file.
use Rattle.std.proofs.Common.{zero, suc}
use Rattle.std.specs.Prelude.{◌≡◌, ℕ, ◌+◌, ◌-◌, ◌*◌, ◌≤◌, true, pos, ℤ, ◌+ℤ◌, ◌-ℤ◌, Bool, ◌&&◌, not, int_lt, if◌then◌else◌, List, [], ◌∷◌, drop, slice_range}
use Rattle.std.specs.Int.{int_min}
use Rattle.std.specs.declared.ops.Range.{Range}
use Rattle.pix_el.specs.Pixel.{lies_in}
use Rattle.pix_raster.specs.Region.{Rectangle, limit, has_row, whole}
use Rattle.pix_raster.specs.Reach.{is_below, is_paired, natural}
use Rattle.pix_raster.specs.View.{picture}
use Rattle.pix_raster.specs.declared.clip.Overlap.{Overlap}
use Rattle.pix_raster.specs.declared.view.Shape.{Shape}
use Rattle.pix_raster.specs.declared.view.Window.{Window}

-- whether the point lies in both half-open ranges
abbrev pub in_box : (columns rows : Range ℕ) → ℕ → ℕ → Bool
in_box columns rows x y = lies_in columns x && lies_in rows y

-- f of the point and of what stands there, where it lies in both ranges, and what stands elsewhere
abbrev pub where_in : {X : Type 0} → (columns rows : Range ℕ) → (ℕ → ℕ → X → X) → ℕ → ℕ → X → X
where_in columns rows f x y pixel = if in_box columns rows x y then f x y pixel else pixel

-- whether the coordinate is one of so many from a start on, at most 2147483647
abbrev pub is_between : (start : ℤ) → (len x : ℕ) → Bool
is_between start len x = not (int_lt (pos x) start) && int_lt (pos x) (int_min (start +ℤ pos len) (pos limit))

-- whether the offset is below the length, and leads from the start to one of the columns, or rows,
-- of a raster that has `limit`
abbrev pub is_offset : (start : ℤ) → (len limit : ℕ) → ℤ → Bool
is_offset start len limit i = is_below len i && is_below limit (start +ℤ i)

-- the elements from a on and below b of each of n rows of w elements
abbrev pub row_parts : {P : Type 0} → ℕ → ℕ → ℕ → ℕ → List P → List (List P)
row_parts zero w a b xs = []
row_parts (suc n) w a b xs = slice_range xs a b ∷ row_parts n w a b (drop w xs)

-- the place of the first point in row y of a rectangle that lies in an image of that width, 0 where
-- it has none
abbrev pub row_start : ℕ → Rectangle → ℤ → ℕ
row_start width r y = if has_row r y then natural y * width + natural r.left else 0

-- the place past the last of them, 0 where it has none
abbrev pub row_end : ℕ → Rectangle → ℤ → ℕ
row_end width r y = if has_row r y then natural y * width + (natural r.left + r.width) else 0

-- the overlap has just the points of a window that are paired with a point of a source, each with
-- that point
pub record IsOverlap (window : Window) (to from : Rectangle) (src : Shape) (overlap : Overlap) : Type 0 where
  pub ordered : overlap.columns.dst.start ≤ overlap.columns.dst.end
  pub from_top : overlap.rows.dst.start ≤ overlap.rows.dst.end
  pub in_width : overlap.columns.dst.end ≤ window.shape.width
  pub in_height : overlap.rows.dst.end ≤ window.shape.height
  pub in_src_width : overlap.columns.src_start + (overlap.columns.dst.end - overlap.columns.dst.start) ≤ src.width
  pub in_src_height : overlap.rows.src_start + (overlap.rows.dst.end - overlap.rows.dst.start) ≤ src.height
  pub points : (x y : ℕ) → in_box overlap.columns.dst overlap.rows.dst x y
      ≡ is_paired to (picture window) from (whole src.width src.height) (pos (window.left + x) -ℤ to.left) (pos (window.top + y) -ℤ to.top)
  pub src_columns : (x : ℕ) → lies_in overlap.columns.dst x ≡ true
      → overlap.columns.src_start + (x - overlap.columns.dst.start) ≡ natural (from.left +ℤ (pos (window.left + x) -ℤ to.left))
  pub src_rows : (y : ℕ) → lies_in overlap.rows.dst y ≡ true
      → overlap.rows.src_start + (y - overlap.rows.dst.start) ≡ natural (from.top +ℤ (pos (window.top + y) -ℤ to.top))

-- the overlap has just the points of a window that are paired with a point of a source and with one
-- of a mask, each with both; the column and row of the mask for the first are the two numbers
pub record IsMaskedOverlap (window : Window) (to from : Rectangle) (src : Shape) (mask_from : Rectangle) (mask : Shape) (overlap : Overlap) (mask_starts : ℕ × ℕ) : Type 0 where
  pub ordered : overlap.columns.dst.start ≤ overlap.columns.dst.end
  pub from_top : overlap.rows.dst.start ≤ overlap.rows.dst.end
  pub in_width : overlap.columns.dst.end ≤ window.shape.width
  pub in_height : overlap.rows.dst.end ≤ window.shape.height
  pub in_src_width : overlap.columns.src_start + (overlap.columns.dst.end - overlap.columns.dst.start) ≤ src.width
  pub in_src_height : overlap.rows.src_start + (overlap.rows.dst.end - overlap.rows.dst.start) ≤ src.height
  pub in_mask_width : mask_starts.0 + (overlap.columns.dst.end - overlap.columns.dst.start) ≤ mask.width
  pub in_mask_height : mask_starts.1 + (overlap.rows.dst.end - overlap.rows.dst.start) ≤ mask.height
  pub points : (x y : ℕ) → in_box overlap.columns.dst overlap.rows.dst x y
      ≡ (is_paired to (picture window) from (whole src.width src.height) (pos (window.left + x) -ℤ to.left) (pos (window.top + y) -ℤ to.top)
      && is_paired to (picture window) mask_from (whole mask.width mask.height) (pos (window.left + x) -ℤ to.left) (pos (window.top + y) -ℤ to.top))
  pub src_columns : (x : ℕ) → lies_in overlap.columns.dst x ≡ true
      → overlap.columns.src_start + (x - overlap.columns.dst.start) ≡ natural (from.left +ℤ (pos (window.left + x) -ℤ to.left))
  pub src_rows : (y : ℕ) → lies_in overlap.rows.dst y ≡ true
      → overlap.rows.src_start + (y - overlap.rows.dst.start) ≡ natural (from.top +ℤ (pos (window.top + y) -ℤ to.top))
  pub mask_columns : (x : ℕ) → lies_in overlap.columns.dst x ≡ true
      → mask_starts.0 + (x - overlap.columns.dst.start) ≡ natural (mask_from.left +ℤ (pos (window.left + x) -ℤ to.left))
  pub mask_rows : (y : ℕ) → lies_in overlap.rows.dst y ≡ true
      → mask_starts.1 + (y - overlap.rows.dst.start) ≡ natural (mask_from.top +ℤ (pos (window.top + y) -ℤ to.top))
