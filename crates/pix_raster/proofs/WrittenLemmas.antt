-- parts of an image: its rows, and the image after a part of it was written over
use Rattle.std.proofs.Common.{◌≡◌, ◌≢◌, ℕ, zero, suc, ◌+◌, ◌-◌, ◌*◌, ◌<◌, ◌≤◌, ℤ, pos, ◌+ℤ◌, ◌<ℤ◌, Bool, true, false, ◌⊎◌, inl, inr, List, [], ◌∷◌, take, drop, length, length-drop, map, slice_range, refl, sym, ap, ◌∙◌, arith}
use Rattle.std.specs.Prelude.{not, ◌&&◌, int_lt, All}
use Rattle.std.specs.Int.{int_min, int_max, int_gap}
use Rattle.std.proofs.lemmas.Int.{ints, clamps}
use Rattle.std.specs.List.{range_with_len, refill}
use Rattle.std.proofs.Math.Seq.{take-append_seam}
use Rattle.std.proofs.lemmas.List.Elements.{All-nil, All-cons}
use Rattle.std.proofs.lemmas.List.{drop-take, take-take, drop-drop, take_all, take-append-drop, length-take-le}
use Rattle.std.proofs.Math.Nat.{mul-le-mul_right}
use lib.IntN.{nat_abs, negsuc}
use lib.Signed.{lt_z}
use Rattle.pix_raster.specs.Region.{Rectangle, right, bottom, has_row, between, no_points}
use Rattle.pix_raster.specs.Image.{Image, IsPoint, region_of}
use Rattle.pix_raster.specs.Reach.{natural}
use Rattle.pix_raster.specs.Rows.{clipped, row_of, rows_of}
use Rattle.std.specs.declared.ops.Range.{Range}
use Rattle.pix_raster.specs.Written.{place_of, with_run}
use Rattle.pix_raster.specs.declared.clip.ClippedRect.{ClippedRect}
use Rattle.pix_raster.specs.Clip.{row_parts, row_start, row_end}
use Rattle.pix_raster.proofs.Rectangles.{gap_leads}

-- the place of a point, as the code computes it
pub point_place : {P : Type 0} (image : Image P) (x y : ℤ) → IsPoint image x y → nat_abs y * image.width + nat_abs x ≡ place_of image x y
point_place image (pos x) (pos y) p = refl
point_place image (negsuc x) y p = absurd (omega (arith, ints, p.left))
point_place image (pos x) (negsuc y) p = absurd (omega (arith, ints, p.top))

-- a part of the first w elements is the same part of all
part_of_front : {P : Type 0} (w a b : ℕ) (xs : List P) → a ≤ b → b ≤ w → take (b - a) (drop a (take w xs)) ≡ take (b - a) (drop a xs)
part_of_front w a b xs h k =
    let e : w ≡ a + (w - a) = omega arith in
    ap (λ n. take (b - a) (drop a (take n xs))) e ∙ ap (take (b - a)) (drop-take a (w - a) xs) ∙ take-take (b - a) (w - a) (drop a xs) (omega arith)

-- the first of the rows that are left, and those behind it
pub row_parts-first : {P : Type 0} (n w a b : ℕ) (xs front back : List P) → n ≢ 0 → a ≤ b → b ≤ w → front ≡ take w xs → back ≡ drop w xs
    → row_parts n w a b xs ≡ take (b - a) (drop a front) ∷ row_parts (n - 1) w a b back
row_parts-first zero w a b xs front back h o k ef eb = absurd (h refl)
row_parts-first (suc n) w a b xs front back h o k ef eb =
    let less : suc n - 1 ≡ n = omega arith in
    rw (ef, eb, less) (ap (λ r. r ∷ row_parts n w a b (drop w xs)) (sym (part_of_front w a b xs o k)))

-- there are as many rows as are left
pub length-row_parts : {P : Type 0} (n w a b : ℕ) (xs : List P) → length (row_parts n w a b xs) ≡ n
length-row_parts zero w a b xs = refl
length-row_parts (suc n) w a b xs = ap suc (length-row_parts n w a b (drop w xs))

-- each is as long as the columns are many
row_parts-wide : {P : Type 0} (n w a b k : ℕ) (xs : List P) → b ≡ a + k → b ≤ w → n * w ≤ length xs → All (λ row. length row ≡ k) (row_parts n w a b xs)
row_parts-wide {P} zero w a b k xs e o fits = All-nil (λ (row : List P). length row ≡ k)
row_parts-wide {P} (suc n) w a b k xs e o fits =
    let long : b - a ≤ length (drop a xs) = omega (arith, length-drop a xs) in
    let rest : n * w ≤ length (drop w xs) = omega (arith, length-drop w xs) in
    let is : b - a ≡ k = omega arith in
    All-cons (λ (row : List P). length row ≡ k) (slice_range xs a b) (row_parts n w a b (drop w xs)) (length-take-le (b - a) (drop a xs) long ∙ is) (row_parts-wide n w a b k (drop w xs) e o rest)

-- one row of a rectangle that lies in an image
part_is : {P : Type 0} (image : Image P) (r : Rectangle) (t : ℕ) → slice_range (drop (t * image.width) image.pixels) (natural r.left) (natural r.left + r.width) ≡ row_of image r t
part_is image r t =
    let e : natural r.left + r.width - natural r.left ≡ r.width = omega arith in
    ap (λ k. take k (drop (natural r.left) (drop (t * image.width) image.pixels))) e ∙ ap (take r.width) (drop-drop (natural r.left) (t * image.width) image.pixels)

-- n rows from row t on
parts_are : {P : Type 0} (image : Image P) (r : Rectangle) (n t : ℕ)
    → row_parts n image.width (natural r.left) (natural r.left + r.width) (drop (t * image.width) image.pixels) ≡ map (row_of image r) (range_with_len t n)
parts_are image r zero t = refl
parts_are image r (suc n) t =
    let next : drop image.width (drop (t * image.width) image.pixels) ≡ drop ((t + 1) * image.width) image.pixels =
    drop-drop image.width (t * image.width) image.pixels ∙ ap (λ k. drop k image.pixels) (let e : t * image.width + image.width ≡ (t + 1) * image.width = omega arith in e) in
    ap (λ l. l ∷ row_parts n image.width (natural r.left) (natural r.left + r.width) (drop image.width (drop (t * image.width) image.pixels))) (part_is image r t)
    ∙ ap (λ l. row_of image r t ∷ row_parts n image.width (natural r.left) (natural r.left + r.width) l) next
    ∙ ap (λ l. row_of image r t ∷ l) (parts_are image r n (t + 1))

-- the rows of the points of a rectangle that lie in an image, as the code finds them
rows_are : {P : Type 0} (image : Image P) (reg : Rectangle) (xs : List P) (columns rows : Range ℕ) → xs ≡ image.pixels
    → columns.start ≡ natural (clipped image reg).left → columns.end ≡ natural (clipped image reg).left + (clipped image reg).width
    → rows.start ≡ natural (clipped image reg).top → rows.end ≡ natural (clipped image reg).top + (clipped image reg).height
    → row_parts (rows.end - rows.start) image.width columns.start columns.end (take (length xs - rows.start * image.width) (drop (rows.start * image.width) xs)) ≡ rows_of image reg
rows_are image reg xs columns rows same left right top bottom =
    let c = clipped image reg in
    let all : take (length xs - rows.start * image.width) (drop (rows.start * image.width) xs) ≡ drop (rows.start * image.width) xs =
    take_all (length xs - rows.start * image.width) (drop (rows.start * image.width) xs) (omega (arith, length-drop (rows.start * image.width) xs)) in
    let high : rows.end - rows.start ≡ c.height = omega arith in
    ap (row_parts (rows.end - rows.start) image.width columns.start columns.end) all
    ∙ ap (λ l. row_parts (rows.end - rows.start) image.width columns.start columns.end (drop (rows.start * image.width) l)) same
    ∙ ap (λ k. row_parts k image.width columns.start columns.end (drop (rows.start * image.width) image.pixels)) high
    ∙ ap (λ k. row_parts c.height image.width k columns.end (drop (rows.start * image.width) image.pixels)) left
    ∙ ap (λ k. row_parts c.height image.width (natural c.left) k (drop (rows.start * image.width) image.pixels)) right
    ∙ ap (λ k. row_parts c.height image.width (natural c.left) (natural c.left + c.width) (drop (k * image.width) image.pixels)) top
    ∙ parts_are image c c.height (natural c.top)

-- the rows from one on lie in the list
rows_fit : {P : Type 0} (xs : List P) (w h : ℕ) (rows : Range ℕ) → length xs ≡ h * w → rows.start ≤ rows.end → rows.end ≤ h
    → (rows.end - rows.start) * w ≤ length (take (length xs - rows.start * w) (drop (rows.start * w) xs))
rows_fit xs w h rows long ordered high =
    let upto : rows.end * w ≤ h * w = mul-le-mul_right w high in
    let parts : (rows.end - rows.start) * w + rows.start * w ≡ rows.end * w = (let e : rows.end - rows.start + rows.start ≡ rows.end = omega arith in let d : (rows.end - rows.start) * w + rows.start * w ≡ (rows.end - rows.start + rows.start) * w = omega arith in d ∙ ap (λ k. k * w) e) in
    omega (arith, length-take-le (length xs - rows.start * w) (drop (rows.start * w) xs) (omega (arith, length-drop (rows.start * w) xs)))

-- what `rows` and `rows_mut` lend of a list of pixels: those from the first row of the clipped
-- rectangle on
abbrev rows_between : {P : Type 0} → List P → ℕ → ClippedRect → List P
rows_between xs width c = take (length xs - c.rows.start * width) (drop (c.rows.start * width) xs)

-- the rows lie in it
pub walk_fits : {P : Type 0} (xs : List P) (width height : ℕ) (c : ClippedRect) → length xs ≡ height * width → c.columns.start ≤ c.columns.end → c.rows.start ≤ c.rows.end
    → c.columns.end ≤ width → c.rows.end ≤ height
    → (c.columns.start ≤ c.columns.end) × (c.columns.end ≤ width) × ((c.rows.end - c.rows.start) * width ≤ length (rows_between xs width c))
walk_fits xs width height c long ordered from_top in_width in_height = (ordered, in_width, rows_fit xs width height c.rows long from_top in_height)

-- the rows that are found in it are those of the points of a rectangle that lie in an image, as
-- many as those are high and each as long as those are wide
pub record IsWalk {P : Type 0} (image : Image P) (reg : Rectangle) (found : List (List P)) : Type 0 where
  pub rows : found ≡ rows_of image reg
  pub count : length found ≡ (clipped image reg).height
  pub wide : All (λ row. length row ≡ (clipped image reg).width) found

-- where the list is that of the image, and the rectangle the clipped one
pub walk_is : {P : Type 0} (image : Image P) (reg : Rectangle) (c : ClippedRect) (xs : List P) → xs ≡ image.pixels
    → c.columns.start ≡ natural (clipped image reg).left → c.columns.end ≡ natural (clipped image reg).left + (clipped image reg).width
    → c.rows.start ≡ natural (clipped image reg).top → c.rows.end ≡ natural (clipped image reg).top + (clipped image reg).height
    → c.columns.end ≤ image.width → (c.rows.end - c.rows.start) * image.width ≤ length (rows_between xs image.width c)
    → IsWalk image reg (row_parts (c.rows.end - c.rows.start) image.width c.columns.start c.columns.end (rows_between xs image.width c))
walk_is image reg c xs same left right top bottom in_width fits = record {
  rows = rows_are image reg xs c.columns c.rows same left right top bottom;
  count = length-row_parts (c.rows.end - c.rows.start) image.width c.columns.start c.columns.end (rows_between xs image.width c) ∙ omega (arith, top, bottom);
  wide = row_parts-wide (c.rows.end - c.rows.start) image.width c.columns.start c.columns.end (clipped image reg).width (rows_between xs image.width c) (omega (arith, left, right)) in_width fits;
}

-- the first of some rows begins in the list
pub row_begins : {P : Type 0} (xs : List P) (w h n : ℕ) → length xs ≡ h * w → n ≤ h → n * w ≤ length xs
row_begins xs w h n long high = rw long (mul-le-mul_right w high)

-- a row above a rectangle, or below it, is none of its rows
no_row_at : (t : ℤ) (h n : ℕ) → (n < natural t) ⊎ (natural t + h ≤ n) → (not (int_lt (pos n) t) && int_lt (pos n) (int_min (t +ℤ pos h) (pos 2147483647))) ≡ false
no_row_at (pos t) h n (inl above) = grind (arith, ints, clamps)
no_row_at (pos t) h n (inr below) = grind (arith, ints, clamps)
no_row_at (negsuc t) h n (inl above) = absurd (omega arith)
no_row_at (negsuc t) h n (inr below) = grind (arith, ints, clamps)

-- the same for a row that is not negative
pub no_row : (r : Rectangle) (y : ℤ) → lt_z y (pos 0) ≡ false → (nat_abs y < natural r.top) ⊎ ((natural r.top ≤ nat_abs y) × (natural r.top + r.height ≤ nat_abs y)) → has_row r y ≡ false
no_row r (pos n) h (inl above) = no_row_at r.top r.height n (inl above)
no_row r (pos n) h (inr below) = no_row_at r.top r.height n (inr below.1)
no_row r (negsuc n) h o = grind arith

-- a rectangle between edges that has a row has a column
some_column : (l t r b y : ℤ) (p : Bool) → (int_lt l r && int_lt t b) ≡ p → has_row (between l t r b) y ≡ true → 0 < (between l t r b).width
some_column l t r b y true e h =
    let less : l <ℤ r = grind (arith, ints) in
    let leads : (l +ℤ pos (int_gap l r)) ≡ r = gap_leads l r (omega (arith, ints)) in
    rw e (let k : 0 < int_gap l r = omega (arith, ints) in k)
some_column l t r b y false e h = let none : has_row no_points y ≡ true = rw e at h in absurd (grind (arith, ints, clamps))

-- a row of the points of a rectangle that lie in an image has one at least
pub row_has_pixels : {P : Type 0} (image : Image P) (r : Rectangle) (y : ℤ) → has_row (clipped image r) y ≡ true → 0 < (clipped image r).width
row_has_pixels image r y e =
    let s : Rectangle = region_of image in
    some_column (int_max r.left s.left) (int_max r.top s.top) (int_min (right r) (right s)) (int_min (bottom r) (bottom s)) y _ refl e

-- what a part of a row that has no pixel says
none_there_by : {P : Type 0} (image : Image P) (r : Rectangle) (y : ℤ) (n : ℕ) (p : Bool) → has_row (clipped image r) y ≡ p
    → n + row_start image.width (clipped image r) y ≡ row_end image.width (clipped image r) y → n ≡ 0 → p ≡ false
none_there_by image r y n true e long z = let some = row_has_pixels image r y e in let same = rw e at long in absurd (omega arith)
none_there_by image r y n false e long z = refl

-- no pixel is there where the rectangle has no such row
pub none_there : {P : Type 0} (image : Image P) (r : Rectangle) (y : ℤ) (n : ℕ)
    → n + row_start image.width (clipped image r) y ≡ row_end image.width (clipped image r) y → n ≡ 0 → has_row (clipped image r) y ≡ false
none_there image r y n long z = none_there_by image r y n _ refl long z

some_there_by : {P : Type 0} (image : Image P) (r : Rectangle) (y : ℤ) (n : ℕ) (p : Bool) → has_row (clipped image r) y ≡ p
    → n + row_start image.width (clipped image r) y ≡ row_end image.width (clipped image r) y → 0 < n → p ≡ true
some_there_by image r y n true e long z = refl
some_there_by image r y n false e long z = let same = rw e at long in absurd (omega arith)

-- where a pixel is, the rectangle has that row
pub some_there : {P : Type 0} (image : Image P) (r : Rectangle) (y : ℤ) (n : ℕ)
    → n + row_start image.width (clipped image r) y ≡ row_end image.width (clipped image r) y → 0 < n → has_row (clipped image r) y ≡ true
some_there image r y n long z = some_there_by image r y n _ refl long z

-- the place of the first pixel of a row that a rectangle has
pub row_start_is : {P : Type 0} (image : Image P) (r : Rectangle) (y : ℤ) → has_row (clipped image r) y ≡ true → row_start image.width (clipped image r) y ≡ place_of image (clipped image r).left y
row_start_is image r y e = rw e refl

-- the pixels of a row that a rectangle has
pub row_is : {P : Type 0} (image : Image P) (r : Rectangle) (y : ℤ) → has_row (clipped image r) y ≡ true
    → slice_range image.pixels (row_start image.width (clipped image r) y) (row_end image.width (clipped image r) y) ≡ row_of image (clipped image r) (natural y)
row_is image r y e =
    let c = clipped image r in
    let k : natural y * image.width + (natural c.left + c.width) - (natural y * image.width + natural c.left) ≡ c.width = omega arith in
    rw e (ap (λ n. take n (drop (natural y * image.width + natural c.left) image.pixels)) k)

-- nothing written leaves the image
pub with_run-none : {P : Type 0} (image : Image P) (a : ℕ) → with_run image a [] ≡ image
with_run-none {P = P} image a =
    ap (λ (l : List P). let j : Image P = record { width = image.width; height = image.height; pixels = l } in j)
    (ap (refill (length image.pixels) image.pixels) (take-append-drop a image.pixels) ∙ take-append_seam image.pixels (drop (length image.pixels) image.pixels))
