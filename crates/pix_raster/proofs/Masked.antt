-- Changes by a source and a mask.
use Rattle.std.proofs.Common.{◌≡◌, ℕ, ◌<◌, ◌≤◌, ◌+◌, ◌-◌, ◌∙◌, ℤ, pos, ◌+ℤ◌, ◌-ℤ◌, ◌<ℤ◌, Bool, true, false, List, [], ◌∷◌, length, map, get_or, take, drop, fold, refl, ap, arith}
use Rattle.std.specs.Prelude.{◌&&◌, not, int_lt, if◌then◌else◌}
use Rattle.std.specs.Int.{int_min}
use Rattle.std.proofs.lemmas.Int.{ints, clamps}
use lib.IntN.{negsuc}
use Rattle.std.specs.List.{zip}
use Rattle.std.proofs.lemmas.Slice.Zip.{length-zip, get_or-zip}
use Rattle.pix_chan.specs.Runs.{over}
use Rattle.pix_el.specs.Pixel.{lies_in}
use Rattle.pix_el.proofs.Written.{length-over, get_or-over}
use Rattle.pix_raster.specs.Region.{Rectangle, whole, covers, has_column}
use Rattle.pix_raster.specs.Reach.{is_paired, has_offset, leads_into, natural}
use Rattle.pix_raster.specs.View.{read_at, ChangedIn, where_masked, picture, in_window}
use Rattle.pix_raster.specs.Clip.{where_in, IsMaskedOverlap}
use Rattle.pix_raster.specs.declared.clip.Overlap.{Overlap}
use Rattle.pix_raster.specs.declared.view.Shape.{Shape}
use Rattle.pix_raster.specs.declared.view.Window.{Window}
use Rattle.pix_raster.proofs.Rectangles.{below_is}
use Rattle.pix_raster.proofs.Shaped.{changed_in_box}
use Rattle.pix_raster.proofs.Zones.{Part, get_or-part, length-mapped_part}

-- a part of which each place was changed by the same places of parts of two other lists
pub part_masked : {P S M : Type 0} (n : P → List ℕ) (s : S → List ℕ) (m : M → List ℕ) (g : List ℕ → List ℕ → List ℕ → List ℕ) (xs ys : List P) (src : List S) (mask : List M) (a b e k : ℕ)
    → a + k ≤ length xs → b + k ≤ length src → e + k ≤ length mask
    → map n ys ≡ over (λ t. g t.0 t.1) (zip (map m (take k (drop e mask))) (map s (take k (drop b src)))) (map n (take k (drop a xs)))
    → Part (λ i. g (get_or (map m mask) (e + i) []) (get_or (map s src) (b + i) [])) [] (map n xs) (map n ys) a k
part_masked n s m g xs ys src mask a b e k fits fits_src fits_mask made =
    let f = λ (t : List ℕ × List ℕ) (p : List ℕ). g t.0 t.1 p in
    let us = map m (take k (drop e mask)) in
    let vs = map s (take k (drop b src)) in
    let ps = map n (take k (drop a xs)) in
    let long : length ps ≡ k = length-mapped_part n xs a k fits in
    let long_src : length vs ≡ k = length-mapped_part s src b k fits_src in
    let long_mask : length us ≡ k = length-mapped_part m mask e k fits_mask in
    let both : length (zip us vs) ≡ k = omega (arith, length-zip us vs, long_src, long_mask) in
    record {
      long = ap length made ∙ length-over f (zip us vs) ps ∙ long;
      at = λ i lt. ap (λ (l : List (List ℕ)). get_or l i []) made
          ∙ get_or-over f (zip us vs) ps i ([], []) [] (omega (arith, both)) (omega (arith, long))
          ∙ ap (λ (t : List ℕ × List ℕ). f t (get_or ps i [])) (get_or-zip us vs i ([], []) (omega (arith, long_mask)) (omega (arith, long_src)))
          ∙ ap (λ (u : List ℕ). g u (get_or vs i []) (get_or ps i [])) (get_or-part m [] mask e k i lt)
          ∙ ap (λ (v : List ℕ). g (get_or (map m mask) (e + i) []) v (get_or ps i [])) (get_or-part s [] src b k i lt)
          ∙ ap (g (get_or (map m mask) (e + i) []) (get_or (map s src) (b + i) [])) (get_or-part n [] xs a k i lt);
    }

-- f of what a mask and a source have at two places and of what stands there, where both are, is a
-- fold over at most one of both
both_or_none : {X : Type 0} (get get_mask : ℕ → ℕ → X) (f : X → X → X → X) (old : X) (a b m n a' b' m' n' : ℕ) (c r s t : Bool)
    → (c && r) ≡ (s && t) → (c ≡ true → a ≡ m) → (r ≡ true → b ≡ n) → (c ≡ true → a' ≡ m') → (r ≡ true → b' ≡ n')
    → (if c && r then f (get_mask a' b') (get a b) old else old)
    ≡ fold (λ p t. f t.0 t.1 p) old (zip (if t then get_mask m' n' ∷ [] else []) (if s then get m n ∷ [] else []))
both_or_none get get_mask f old a b m n a' b' m' n' true true true true h hc hr hc' hr' = rw (hc refl, hr refl, hc' refl, hr' refl) refl
both_or_none get get_mask f old a b m n a' b' m' n' true true true false h hc hr hc' hr' = absurd (let e : true ≡ false = h in cc)
both_or_none get get_mask f old a b m n a' b' m' n' true true false t h hc hr hc' hr' = absurd (let e : true ≡ false = h in cc)
both_or_none get get_mask f old a b m n a' b' m' n' true false true true h hc hr hc' hr' = absurd (let e : false ≡ true = h in cc)
both_or_none get get_mask f old a b m n a' b' m' n' true false true false h hc hr hc' hr' = refl
both_or_none get get_mask f old a b m n a' b' m' n' true false false true h hc hr hc' hr' = refl
both_or_none get get_mask f old a b m n a' b' m' n' true false false false h hc hr hc' hr' = refl
both_or_none get get_mask f old a b m n a' b' m' n' false r true true h hc hr hc' hr' = absurd (let e : false ≡ true = h in cc)
both_or_none get get_mask f old a b m n a' b' m' n' false r true false h hc hr hc' hr' = refl
both_or_none get get_mask f old a b m n a' b' m' n' false r false true h hc hr hc' hr' = refl
both_or_none get get_mask f old a b m n a' b' m' n' false r false false h hc hr hc' hr' = refl

-- one of two tests
first : (a b : Bool) → (a && b) ≡ true → a ≡ true
first true b h = refl
first false b h = h

second : (a b : Bool) → (a && b) ≡ true → b ≡ true
second true b h = h
second false true h = refl
second false false h = h

-- a coordinate from 0 to a side
natural_below : (z : ℤ) (side : ℕ) → (not (int_lt z (pos 0)) && int_lt z (int_min (pos 0 +ℤ pos side) (pos 2147483647))) ≡ true → natural z < side
natural_below (pos n) side e =
    let h : pos n <ℤ int_min (pos 0 +ℤ pos side) (pos 2147483647) = below_is (pos n) _ (second (not (int_lt (pos n) (pos 0))) _ e) in
    omega (arith, ints, clamps, h)
natural_below (negsuc n) side e = absurd (let f : false ≡ true = e in cc)

-- a point of the source that another is paired with lies in the source
pub paired_below : (to dest from : Rectangle) (width height : ℕ) (i j : ℤ) → is_paired to dest from (whole width height) i j ≡ true
    → (natural (from.left +ℤ i) < width) × (natural (from.top +ℤ j) < height)
paired_below to dest from width height i j e =
    let source : Rectangle = whole width height in
    let a : ℤ = from.left +ℤ i in
    let b : ℤ = from.top +ℤ j in
    let there : covers source a b ≡ true =
    second (covers from a b) _ (second (leads_into to dest i j) _ (second (has_offset to i j && has_offset from i j) _ e)) in
    (natural_below a width (first (has_column source a) _ there), natural_below b height (second (has_column source a) _ there))

-- what is changed in the overlap of a region of a picture with regions of a source and a mask,
-- pixel by pixel, is changed where points are paired with both
pub changed_in_masked : {D S M : Type 0} (window : Window) (to from mask_from : Rectangle) (src_shape mask_shape : Shape) (o : Overlap) (starts : ℕ × ℕ)
    → IsMaskedOverlap window to from src_shape mask_from mask_shape o starts
    → (reads : D → List ℕ) (old new : List D) (source_reads : S → List ℕ) (src : List S) (mask_reads : M → List ℕ) (mask : List M)
    (f : List ℕ → List ℕ → List ℕ → List ℕ) → window.shape.width ≤ window.shape.stride → 0 < window.shape.width
    → ((x y : ℕ) → x < window.shape.stride → read_at reads window.shape.stride new x y
    ≡ where_in o.columns.dst o.rows.dst
    (λ a b. f (read_at mask_reads mask_shape.stride mask (starts.0 + (a - o.columns.dst.start)) (starts.1 + (b - o.rows.dst.start)))
    (read_at source_reads src_shape.stride src (o.columns.src_start + (a - o.columns.dst.start)) (o.rows.src_start + (b - o.rows.dst.start))))
    x y (read_at reads window.shape.stride old x y))
    → ChangedIn reads window.shape old new (in_window window (where_masked to (picture window) from (whole src_shape.width src_shape.height)
    mask_from (whole mask_shape.width mask_shape.height) (read_at source_reads src_shape.stride src) (read_at mask_reads mask_shape.stride mask) f))
changed_in_masked window to from mask_from src_shape mask_shape o starts paired reads old new source_reads src mask_reads mask f apart some changed =
    let get = read_at source_reads src_shape.stride src in
    let get_mask = read_at mask_reads mask_shape.stride mask in
    changed_in_box reads window.shape old new o.columns.dst o.rows.dst
    (λ a b. f (get_mask (starts.0 + (a - o.columns.dst.start)) (starts.1 + (b - o.rows.dst.start))) (get (o.columns.src_start + (a - o.columns.dst.start)) (o.rows.src_start + (b - o.rows.dst.start))))
    _ paired.in_width paired.in_height apart some changed
    (λ x y pixel _ _.
    let left : ℤ = pos (window.left + x) -ℤ to.left in
    let top : ℤ = pos (window.top + y) -ℤ to.top in
    both_or_none get get_mask f pixel (o.columns.src_start + (x - o.columns.dst.start)) (o.rows.src_start + (y - o.rows.dst.start)) (natural (from.left +ℤ left)) (natural (from.top +ℤ top))
    (starts.0 + (x - o.columns.dst.start)) (starts.1 + (y - o.rows.dst.start)) (natural (mask_from.left +ℤ left)) (natural (mask_from.top +ℤ top))
    (lies_in o.columns.dst x) (lies_in o.rows.dst y)
    (is_paired to (picture window) from (whole src_shape.width src_shape.height) left top) (is_paired to (picture window) mask_from (whole mask_shape.width mask_shape.height) left top)
    (paired.points x y) (paired.src_columns x) (paired.src_rows y) (paired.mask_columns x) (paired.mask_rows y))
