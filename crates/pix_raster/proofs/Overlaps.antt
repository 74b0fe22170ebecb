-- The overlap of two regions: each axis from the places of its first point and its last, and the
-- points from both axes.
use Rattle.std.proofs.Common.{◌≡◌, ℕ, ◌<◌, ◌≤◌, ◌+◌, ◌-◌, ℤ, pos, ◌+ℤ◌, ◌-ℤ◌, ◌<ℤ◌, ◌≤ℤ◌, Bool, true, false, arith, min, List, [], ◌∷◌, refl, ap, ◌∙◌, subst}
use Rattle.std.specs.Bool.{Decides}
use Rattle.std.specs.Prelude.{nat_le, not, ◌&&◌, int_lt, if◌then◌else◌, fold}
use Rattle.std.specs.Int.{int_min}
use Rattle.std.proofs.lemmas.Bool.Decides.{nat_tests, Decides-and, Decides-like, Decides-ltb, same_from_decides}
use Rattle.std.proofs.lemmas.Int.{ints, clamps}
use Rattle.std.specs.declared.ops.Range.{Range}
use lib.IntN.{negsuc}
use Rattle.pix_el.specs.Pixel.{lies_in}
use Rattle.pix_raster.specs.Region.{Rectangle, has_column, has_row, whole}
use Rattle.pix_raster.specs.Reach.{is_below, is_paired, natural}
use Rattle.pix_raster.specs.View.{read_at, ChangedIn, where_paired}
use Rattle.pix_raster.specs.Clip.{in_box, where_in, is_offset}
use Rattle.pix_raster.specs.declared.clip.Overlap.{Overlap}
use Rattle.pix_raster.specs.declared.view.Shape.{Shape}
use Rattle.pix_raster.proofs.Shaped.{changed_in_box}
use Rattle.pix_raster.proofs.Rectangles.{Decides-int_lt, Decides-not_int_lt, both}

-- the test whether a number is at most another
Decides-nat_le : (a b : ℕ) → Decides (nat_le a b) (a ≤ b)
Decides-nat_le a b = (λ e. grind (arith, nat_tests), λ h. grind (arith, nat_tests))

-- the test whether a number lies in a range
pub Decides-in : (s : Range ℕ) (x : ℕ) → Decides (lies_in s x) ((s.start ≤ x) × (x < s.end))
Decides-in s x = Decides-and _ _ (Decides-nat_le s.start x) (Decides-ltb x s.end)

-- the number is at least 0 and below n
abbrev pub Below : ℕ → ℤ → Type 0
Below n i = (pos 0 ≤ℤ i) × (i <ℤ pos n)

-- the test whether it is
Decides-below : (n : ℕ) (i : ℤ) → Decides (is_below n i) (Below n i)
Decides-below n i = Decides-and _ _ (Decides-not_int_lt i (pos 0)) (Decides-int_lt i (pos n))

-- the offset is below the length, and leads to a coordinate of the raster
abbrev pub IsOffset : (start : ℤ) (len limit : ℕ) → ℤ → Type 0
IsOffset start len limit i = Below len i × Below limit (start +ℤ i)

-- the test whether it does
pub Decides-offset : (start : ℤ) (len limit : ℕ) (i : ℤ) → Decides (is_offset start len limit i) (IsOffset start len limit i)
Decides-offset start len limit i = Decides-and _ _ (Decides-below len i) (Decides-below limit (start +ℤ i))

-- a whole number that is not negative
pub natural_is : (z : ℤ) → pos 0 ≤ℤ z → z ≡ pos (natural z)
natural_is (pos n) h = refl
natural_is (negsuc n) h = absurd (omega (arith, ints))

-- the offsets of both axes, between the places of the first and the last in both
module _ (to from : ℤ) (to_len first count from_len src_count near src_near start end : ℕ)
    (place : pos (first + near) ≡ to +ℤ pos 4294967296) (src_place : pos src_near ≡ from +ℤ pos 4294967296)
    (es : start ≡ 4294967296 - min near src_near)
    (ee : end ≡ min (min (min to_len from_len) (4294967296 + count - near)) (4294967296 + src_count - src_near)) where
  -- the offset i lies in both rasters
  abbrev Meets : ℤ → Type 0
  Meets i = IsOffset to to_len (first + count) i × IsOffset from from_len src_count i

  -- the offset of a column of the window
  abbrev offset : ℕ → ℤ
  offset x = pos (first + x) -ℤ to

  -- the test whether it lies in both
  abbrev is_met : ℕ → Bool
  is_met x = is_offset to to_len (first + count) (offset x) && is_offset from from_len src_count (offset x)

  Decides-met : (x : ℕ) → Decides (is_met x) (Meets (offset x))
  Decides-met x = Decides-and _ _ (Decides-offset to to_len (first + count) (offset x)) (Decides-offset from from_len src_count (offset x))

  -- what lies between them does
  meets : (n : ℕ) → start ≤ n → n < end → Meets (pos n)
  meets n h k = (
    ((omega (arith, ints), omega (arith, ints, ee, k)), (omega (arith, ints, place, es, h), omega (arith, ints, place, ee, k))),
    ((omega (arith, ints), omega (arith, ints, ee, k)), (omega (arith, ints, src_place, es, h), omega (arith, ints, src_place, ee, k))),
  )

  -- and what does lies between them
  met : (x : ℕ) → Meets (offset x) → (offset x ≡ pos (natural (offset x))) × (start ≤ natural (offset x)) × (natural (offset x) < end)
  met x h =
      let n : ℕ = natural (offset x) in
      let e : offset x ≡ pos n = natural_is (offset x) h.0.0.0 in
      let a : offset x <ℤ pos to_len = h.0.0.1 in
      let b : (to +ℤ offset x) <ℤ pos (first + count) = h.0.1.1 in
      let c : offset x <ℤ pos from_len = h.1.0.1 in
      let d : pos 0 ≤ℤ (from +ℤ offset x) = h.1.1.0 in
      let f : (from +ℤ offset x) <ℤ pos src_count = h.1.1.1 in
      (e, omega (arith, ints, place, src_place, es, e, d), omega (arith, ints, place, src_place, ee, e, a, b, c, f))

  -- where there is none, nothing is paired
  pub none_meet : end ≤ start → (x : ℕ) → lies_in (record { start = 0; end = 0 }) x ≡ is_met x
  none_meet h x =
      same_from_decides _ _ (Decides-in (record { start = 0; end = 0 }) x)
      (Decides-like _ (λ k. let m = met x k in let m1 = m.1 in let m2 = m.2 in absurd (omega arith)) (λ k. let l : x < 0 = k.1 in absurd (omega arith)) (Decides-met x))

  -- the first coordinates in both rasters
  module _ (some : start < end) (d s : ℕ) (hd : d + 4294967296 ≡ near + start) (hs : s + 4294967296 ≡ src_near + start) where
    -- the coordinates of the destination
    abbrev dst : Range ℕ
    dst = record { start = d; end = d + (end - start) }

    there : (x : ℕ) → (d ≤ x) × (x < d + (end - start)) → Meets (offset x)
    there x h =
        let h0 : d ≤ x = h.0 in let h1 : x < d + (end - start) = h.1 in
        let e : pos (start + (x - d)) ≡ offset x = omega (arith, ints, place, hd, h0) in
        subst Meets e (meets (start + (x - d)) (omega arith) (omega (arith, some)))

    back : (x : ℕ) → Meets (offset x) → (d ≤ x) × (x < d + (end - start))
    back x h =
        let m = met x h in
        let e : offset x ≡ pos (natural (offset x)) = m.0 in let m1 : start ≤ natural (offset x) = m.1 in let m2 : natural (offset x) < end = m.2 in
        (omega (arith, ints, place, hd, e, m1), omega (arith, ints, place, hd, e, m1, m2, some))

    -- just those of offsets in both
    pub points_meet : (x : ℕ) → lies_in dst x ≡ is_met x
    points_meet x = same_from_decides _ _ (Decides-in dst x) (Decides-like _ (back x) (there x) (Decides-met x))

    -- each with the coordinate of the source at that offset
    pub sources_meet : (x : ℕ) → lies_in dst x ≡ true → s + (x - d) ≡ natural (from +ℤ offset x)
    sources_meet x e =
        let h = (Decides-in dst x).0 e in let h0 : d ≤ x = h.0 in
        let i : (from +ℤ offset x) ≡ pos (s + (x - d)) = omega (arith, ints, place, src_place, hd, hs, h0) in
        rw i refl

-- one axis of a rectangle in a raster, by its coordinates and by its offsets
axis_is : (start : ℤ) (len limit : ℕ) (i : ℤ) → limit ≤ 2147483647
    → (is_below len i && ((not (int_lt (start +ℤ i) start) && int_lt (start +ℤ i) (int_min (start +ℤ pos len) (pos 2147483647)))
    && (not (int_lt (start +ℤ i) (pos 0)) && int_lt (start +ℤ i) (int_min (pos 0 +ℤ pos limit) (pos 2147483647))))) ≡ is_offset start len limit i
axis_is start len limit i small =
    let p : ℤ = start +ℤ i in
    let right : ℤ = int_min (start +ℤ pos len) (pos 2147483647) in
    let edge : ℤ = int_min (pos 0 +ℤ pos limit) (pos 2147483647) in
    same_from_decides _ _
    (Decides-and _ _ (Decides-below len i) (Decides-and _ _ (Decides-and _ _ (Decides-not_int_lt p start) (Decides-int_lt p right)) (Decides-and _ _ (Decides-not_int_lt p (pos 0)) (Decides-int_lt p edge))))
    (Decides-like _
    (λ h. let a : pos 0 ≤ℤ i = h.0.0 in let b : i <ℤ pos len = h.0.1 in let c : pos 0 ≤ℤ (start +ℤ i) = h.1.0 in let d : (start +ℤ i) <ℤ pos limit = h.1.1 in
    (h.0, ((omega (arith, ints, a), omega (arith, ints, clamps, b, d, small)), (c, omega (arith, ints, clamps, d, small)))))
    (λ h. let c : pos 0 ≤ℤ (start +ℤ i) = h.1.1.0 in let d : (start +ℤ i) <ℤ int_min (pos 0 +ℤ pos limit) (pos 2147483647) = h.1.1.1 in
    (h.0, (c, omega (arith, ints, clamps, d))))
    (Decides-offset start len limit i))

-- twelve tests, of columns and rows by turns, sorted into those of the columns and those of the
-- rows of either rectangle
sorted : (a b c d e f g h k l m n : Bool)
    → (((a && b) && (c && d)) && (((e && f) && (g && h)) && ((k && l) && (m && n)))) ≡ (((a && (e && g)) && (c && (k && m))) && ((b && (f && h)) && (d && (l && n))))
sorted a b c d e f g h k l m n =
    let inner : (((e && f) && (g && h)) && ((k && l) && (m && n))) ≡ (((e && g) && (k && m)) && ((f && h) && (l && n))) =
    ap (λ v. v && ((k && l) && (m && n))) (both e f g h) ∙ ap (λ v. ((e && g) && (f && h)) && v) (both k l m n) ∙ both (e && g) (f && h) (k && m) (l && n) in
    ap (λ v. v && (((e && f) && (g && h)) && ((k && l) && (m && n)))) (both a b c d)
    ∙ ap (λ v. ((a && c) && (b && d)) && v) inner
    ∙ both (a && c) (b && d) ((e && g) && (k && m)) ((f && h) && (l && n))
    ∙ ap (λ v. v && ((b && d) && ((f && h) && (l && n)))) (both a c (e && g) (k && m))
    ∙ ap (λ v. ((a && (e && g)) && (c && (k && m))) && v) (both b d (f && h) (l && n))

-- four tests for four others
alike : (a b c d p q r s : Bool) → a ≡ p → b ≡ q → c ≡ r → d ≡ s → ((a && b) && (c && d)) ≡ ((p && q) && (r && s))
alike a b c d p q r s ea eb ec ed = rw (ea, eb, ec, ed) refl

-- a point is paired where its offsets along both axes lie in both rasters
pub is_paired_by_axes : (to from : Rectangle) (width height src_width src_height : ℕ) (i j : ℤ)
    → width ≤ 2147483647 → height ≤ 2147483647 → src_width ≤ 2147483647 → src_height ≤ 2147483647
    → is_paired to (whole width height) from (whole src_width src_height) i j
    ≡ ((is_offset to.left to.width width i && is_offset from.left from.width src_width i) && (is_offset to.top to.height height j && is_offset from.top from.height src_height j))
is_paired_by_axes to from width height src_width src_height i j hw hh hsw hsh =
    let dest : Rectangle = whole width height in
    let source : Rectangle = whole src_width src_height in
    sorted (is_below to.width i) (is_below to.height j) (is_below from.width i) (is_below from.height j)
    (has_column to (to.left +ℤ i)) (has_row to (to.top +ℤ j)) (has_column dest (to.left +ℤ i)) (has_row dest (to.top +ℤ j))
    (has_column from (from.left +ℤ i)) (has_row from (from.top +ℤ j)) (has_column source (from.left +ℤ i)) (has_row source (from.top +ℤ j))
    ∙ alike _ _ _ _ _ _ _ _ (axis_is to.left to.width width i hw) (axis_is from.left from.width src_width i hsw) (axis_is to.top to.height height j hh) (axis_is from.top from.height src_height j hsh)

-- f of what the source has at a place and of what stands there, where both tests hold, is a fold
-- over at most one source
one_or_none : {X : Type 0} (get : ℕ → ℕ → X) (f : X → X → X) (old : X) (a b m n : ℕ) (c r : Bool)
    → (c ≡ true → a ≡ m) → (r ≡ true → b ≡ n)
    → (if c && r then f (get a b) old else old) ≡ fold (λ p source. f source p) old (if c && r then get m n ∷ [] else [])
one_or_none get f old a b m n true true hc hr = rw (hc refl, hr refl) refl
one_or_none get f old a b m n true false hc hr = refl
one_or_none get f old a b m n false r hc hr = refl

-- what is changed in an overlap, pixel by pixel, is changed where points are paired; its points are
-- those of a picture from (left, top) on
pub changed_in_overlap : {D S : Type 0} (to dest from : Rectangle) (left top : ℕ) (reads : D → List ℕ) (shape : Shape) (old new : List D) (source_reads : S → List ℕ) (src_shape : Shape) (src : List S)
    (f : List ℕ → List ℕ → List ℕ) (o : Overlap)
    → o.columns.dst.end ≤ shape.width → o.rows.dst.end ≤ shape.height → shape.width ≤ shape.stride → 0 < shape.width
    → ((x y : ℕ) → in_box o.columns.dst o.rows.dst x y ≡ is_paired to dest from (whole src_shape.width src_shape.height) (pos (left + x) -ℤ to.left) (pos (top + y) -ℤ to.top))
    → ((x : ℕ) → lies_in o.columns.dst x ≡ true → o.columns.src_start + (x - o.columns.dst.start) ≡ natural (from.left +ℤ (pos (left + x) -ℤ to.left)))
    → ((y : ℕ) → lies_in o.rows.dst y ≡ true → o.rows.src_start + (y - o.rows.dst.start) ≡ natural (from.top +ℤ (pos (top + y) -ℤ to.top)))
    → ((x y : ℕ) → x < shape.stride → read_at reads shape.stride new x y
    ≡ where_in o.columns.dst o.rows.dst
    (λ a b. f (read_at source_reads src_shape.stride src (o.columns.src_start + (a - o.columns.dst.start)) (o.rows.src_start + (b - o.rows.dst.start))))
    x y (read_at reads shape.stride old x y))
    → ChangedIn reads shape old new (λ x y. where_paired to dest from (whole src_shape.width src_shape.height) (read_at source_reads src_shape.stride src) f (left + x) (top + y))
changed_in_overlap to dest from left top reads shape old new source_reads src_shape src f o across down apart some points columns rows changed =
    let get = read_at source_reads src_shape.stride src in
    changed_in_box reads shape old new o.columns.dst o.rows.dst (λ a b. f (get (o.columns.src_start + (a - o.columns.dst.start)) (o.rows.src_start + (b - o.rows.dst.start)))) _ across down apart some changed
    (λ x y pixel _ _.
    one_or_none get f pixel (o.columns.src_start + (x - o.columns.dst.start)) (o.rows.src_start + (y - o.rows.dst.start))
    (natural (from.left +ℤ (pos (left + x) -ℤ to.left))) (natural (from.top +ℤ (pos (top + y) -ℤ to.top))) (lies_in o.columns.dst x) (lies_in o.rows.dst y) (columns x) (rows y)
    ∙ rw (points x y) refl)
