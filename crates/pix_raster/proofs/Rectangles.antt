-- rectangles between two columns and two rows
use Rattle.std.proofs.Common.{◌≡◌, ℕ, ◌+◌, ◌<◌, ◌≤◌, ℤ, pos, ◌+ℤ◌, ◌-ℤ◌, ◌<ℤ◌, ◌≤ℤ◌, Bool, true, false, arith, ◌⊎◌, refl, sym, ◌∙◌, ap}
use Rattle.std.specs.Bool.{Decides}
use Rattle.std.specs.Prelude.{not, ◌&&◌, int_lt}
use Rattle.std.specs.Int.{int_min, int_max, int_gap}
use Rattle.std.specs.Int.RustNames.{unsigned_abs}
use Rattle.std.proofs.lemmas.Bool.Decides.{Decides-and, Decides-like, same_from_decides}
use Rattle.std.proofs.lemmas.Int.{ints, clamps}
use lib.IntN.{negsuc}
use Rattle.pix_raster.specs.Image.{Image, IsInside, region_of}
use Rattle.pix_raster.specs.Reach.{natural}
use Rattle.pix_raster.specs.Region.{Rectangle, right, bottom, has_column, has_row, covers, whole, no_points, between, intersection_of}

-- the test whether a whole number is below another
pub Decides-int_lt : (a b : ℤ) → Decides (int_lt a b) (a <ℤ b)
Decides-int_lt a b = (λ e. grind (arith, ints), λ h. grind (arith, ints))

-- the test whether it is not
pub Decides-not_int_lt : (a b : ℤ) → Decides (not (int_lt a b)) (b ≤ℤ a)
Decides-not_int_lt a b = (λ e. grind (arith, ints), λ h. grind (arith, ints))

-- a step from l leads to r
pub gap_leads : (l r : ℤ) → l ≤ℤ r → (l +ℤ pos (int_gap l r)) ≡ r
gap_leads (pos a) (pos b) h = omega (arith, ints)
gap_leads (pos a) (negsuc b) h = omega (arith, ints)
gap_leads (negsuc a) (pos b) h = omega (arith, ints)
gap_leads (negsuc a) (negsuc b) h = omega (arith, ints)

-- the same step, as `abs_diff` gives it
pub gap_is : (l r : ℤ) → l ≤ℤ r → unsigned_abs (r -ℤ l) ≡ int_gap l r
gap_is (pos a) (pos b) h = omega (arith, ints)
gap_is (pos a) (negsuc b) h = omega (arith, ints)
gap_is (negsuc a) (pos b) h = omega (arith, ints)
gap_is (negsuc a) (negsuc b) h = omega (arith, ints)

int_max-comm : (a b : ℤ) → int_max a b ≡ int_max b a
int_max-comm a b = omega (arith, ints, clamps)

int_min-comm : (a b : ℤ) → int_min a b ≡ int_min b a
int_min-comm a b = omega (arith, ints, clamps)

-- a column that two rectangles share
axis : (l r m s x : ℤ) → (not (int_lt x (int_max l m)) && int_lt x (int_min r s)) ≡ ((not (int_lt x l) && int_lt x r) && (not (int_lt x m) && int_lt x s))
axis l r m s x =
    same_from_decides _ _
    (Decides-and _ _ (Decides-not_int_lt x (int_max l m)) (Decides-int_lt x (int_min r s)))
    (Decides-like _ (λ h. let a : l ≤ℤ x = h.0.0 in let b : x <ℤ r = h.0.1 in let c : m ≤ℤ x = h.1.0 in let d : x <ℤ s = h.1.1 in (omega (arith, ints, clamps), omega (arith, ints, clamps)))
    (λ h. let a : int_max l m ≤ℤ x = h.0 in let b : x <ℤ int_min r s = h.1 in ((omega (arith, ints, clamps), omega (arith, ints, clamps)), (omega (arith, ints, clamps), omega (arith, ints, clamps))))
    (Decides-and _ _ (Decides-and _ _ (Decides-not_int_lt x l) (Decides-int_lt x r)) (Decides-and _ _ (Decides-not_int_lt x m) (Decides-int_lt x s))))

false_from : (a b : Bool) → (a ≡ true → b ≡ true) → b ≡ false → a ≡ false
false_from true b h e = let f : b ≡ true = h refl in cc
false_from false b h e = refl

-- whether a point lies between two columns and two rows
abbrev lies : ℤ → ℤ → ℤ → ℤ → ℤ → ℤ → Bool
lies l t r b x y = (not (int_lt x l) && int_lt x r) && (not (int_lt y t) && int_lt y b)

abbrev Lies : ℤ → ℤ → ℤ → ℤ → ℤ → ℤ → Type 0
Lies l t r b x y = ((l ≤ℤ x) × (x <ℤ r)) × ((t ≤ℤ y) × (y <ℤ b))

Decides-lies : (l t r b x y : ℤ) → Decides (lies l t r b x y) (Lies l t r b x y)
Decides-lies l t r b x y = Decides-and _ _ (Decides-and _ _ (Decides-not_int_lt x l) (Decides-int_lt x r)) (Decides-and _ _ (Decides-not_int_lt y t) (Decides-int_lt y b))

-- whether anything lies between them
abbrev open_between : ℤ → ℤ → ℤ → ℤ → Bool
open_between l t r b = int_lt l r && int_lt t b

Decides-open : (l t r b : ℤ) → Decides (open_between l t r b) ((l <ℤ r) × (t <ℤ b))
Decides-open l t r b = Decides-and _ _ (Decides-int_lt l r) (Decides-int_lt t b)

-- where a point lies between them, something does
open-from-lies : (l t r b x y : ℤ) → lies l t r b x y ≡ true → open_between l t r b ≡ true
open-from-lies l t r b x y e = let h = (Decides-lies l t r b x y).0 e in
    let h0 : l ≤ℤ x = h.0.0 in let h1 : x <ℤ r = h.0.1 in let h2 : t ≤ℤ y = h.1.0 in let h3 : y <ℤ b = h.1.1 in
    (Decides-open l t r b).1 (omega (arith, ints), omega (arith, ints))

-- the far edge, from the near one and the side
edge : (l r : ℤ) → l ≤ℤ r → r ≤ℤ pos 2147483647 → int_min (l +ℤ pos (int_gap l r)) (pos 2147483647) ≡ r
edge l r h k = let g : (l +ℤ pos (int_gap l r)) ≡ r = gap_leads l r h in rw g (omega (arith, ints, clamps))

-- the points of a rectangle between edges
covers-between : (l t r b x y : ℤ) → r ≤ℤ pos 2147483647 → b ≤ℤ pos 2147483647 → (p : Bool) → open_between l t r b ≡ p → covers (between l t r b) x y ≡ lies l t r b x y
covers-between l t r b x y hr hb true e =
    let h = (Decides-open l t r b).0 e in
    let h0 : l <ℤ r = h.0 in let h1 : t <ℤ b = h.1 in
    let er = edge l r (omega (arith, ints)) hr in
    let eb = edge t b (omega (arith, ints)) hb in
    rw (e, er, eb) refl
covers-between l t r b x y hr hb false e =
    let f : covers no_points x y ≡ false = false_from _ false (open-from-lies (pos 0) (pos 0) (pos 0) (pos 0) x y) refl in
    rw e (f ∙ sym (false_from _ _ (open-from-lies l t r b x y) e))

-- two pairs of tests, paired the other way
pub both : (a b c d : Bool) → ((a && b) && (c && d)) ≡ ((a && c) && (b && d))
both true b true d = refl
both true true false d = refl
both true false false d = refl
both false b c d = refl

-- a point of what two rectangles share is a point of both
pub covers-intersection_of : (r s : Rectangle) (x y : ℤ) → covers (intersection_of r s) x y ≡ (covers r x y && covers s x y)
covers-intersection_of r s x y =
    let rt : ℤ = int_min (right r) (right s) in
    let bt : ℤ = int_min (bottom r) (bottom s) in
    let hr : rt ≤ℤ pos 2147483647 = omega (arith, ints, clamps) in
    let hb : bt ≤ℤ pos 2147483647 = omega (arith, ints, clamps) in
    covers-between (int_max r.left s.left) (int_max r.top s.top) rt bt x y hr hb _ refl
    ∙ ap (λ v. v && (not (int_lt y (int_max r.top s.top)) && int_lt y bt)) (axis r.left (right r) s.left (right s) x)
    ∙ ap (λ v. (has_column r x && has_column s x) && v) (axis r.top (bottom r) s.top (bottom s) y)
    ∙ both (has_column r x) (has_column s x) (has_row r y) (has_row s y)

pub intersection_of-comm : (r s : Rectangle) → intersection_of r s ≡ intersection_of s r
intersection_of-comm r s =
    rw (int_max-comm r.left s.left, int_max-comm r.top s.top, int_min-comm (right r) (right s), int_min-comm (bottom r) (bottom s)) refl

between-closed : (l t r b : ℤ) → open_between l t r b ≡ false → between l t r b ≡ no_points
between-closed l t r b e = rw e refl

-- what lies between, cut once more
cut : (l t r b : ℤ) (s : Rectangle) → r ≤ℤ pos 2147483647 → b ≤ℤ pos 2147483647 → (p : Bool) → open_between l t r b ≡ p
    → intersection_of (between l t r b) s ≡ between (int_max l s.left) (int_max t s.top) (int_min r (right s)) (int_min b (bottom s))
cut l t r b s hr hb true e =
    let h = (Decides-open l t r b).0 e in
    let h0 : l <ℤ r = h.0 in let h1 : t <ℤ b = h.1 in
    let er = edge l r (omega (arith, ints)) hr in
    let eb = edge t b (omega (arith, ints)) hb in
    rw (e, er, eb) refl
cut l t r b s hr hb false e =
    let shut : open_between (int_max (pos 0) s.left) (int_max (pos 0) s.top) (int_min (pos 0) (right s)) (int_min (pos 0) (bottom s)) ≡ false =
    false_from _ false (λ k. let h = (Decides-open (int_max (pos 0) s.left) (int_max (pos 0) s.top) (int_min (pos 0) (right s)) (int_min (pos 0) (bottom s))).0 k in let h0 : int_max (pos 0) s.left <ℤ int_min (pos 0) (right s) = h.0 in absurd (omega (arith, ints, clamps))) refl in
    let still : open_between (int_max l s.left) (int_max t s.top) (int_min r (right s)) (int_min b (bottom s)) ≡ false =
    false_from _ _ (λ k. let h = (Decides-open (int_max l s.left) (int_max t s.top) (int_min r (right s)) (int_min b (bottom s))).0 k in
    let h0 : int_max l s.left <ℤ int_min r (right s) = h.0 in let h1 : int_max t s.top <ℤ int_min b (bottom s) = h.1 in
    (Decides-open l t r b).1 (omega (arith, ints, clamps), omega (arith, ints, clamps))) e in
    ap (λ q. intersection_of q s) (between-closed l t r b e)
    ∙ between-closed (int_max (pos 0) s.left) (int_max (pos 0) s.top) (int_min (pos 0) (right s)) (int_min (pos 0) (bottom s)) shut
    ∙ sym (between-closed (int_max l s.left) (int_max t s.top) (int_min r (right s)) (int_min b (bottom s)) still)

pub intersection_of-assoc : (r s t : Rectangle) → intersection_of (intersection_of r s) t ≡ intersection_of r (intersection_of s t)
intersection_of-assoc r s t =
    let rt : ℤ = int_min (right r) (right s) in
    let bt : ℤ = int_min (bottom r) (bottom s) in
    let rt2 : ℤ = int_min (right s) (right t) in
    let bt2 : ℤ = int_min (bottom s) (bottom t) in
    let hr : rt ≤ℤ pos 2147483647 = omega (arith, ints, clamps) in
    let hb : bt ≤ℤ pos 2147483647 = omega (arith, ints, clamps) in
    let hr2 : rt2 ≤ℤ pos 2147483647 = omega (arith, ints, clamps) in
    let hb2 : bt2 ≤ℤ pos 2147483647 = omega (arith, ints, clamps) in
    let one = cut (int_max r.left s.left) (int_max r.top s.top) rt bt t hr hb _ refl in
    let two = cut (int_max s.left t.left) (int_max s.top t.top) rt2 bt2 r hr2 hb2 _ refl in
    let e1 : int_max (int_max r.left s.left) t.left ≡ int_max (int_max s.left t.left) r.left = omega (arith, ints, clamps) in
    let e2 : int_max (int_max r.top s.top) t.top ≡ int_max (int_max s.top t.top) r.top = omega (arith, ints, clamps) in
    let e3 : int_min rt (right t) ≡ int_min rt2 (right r) = omega (arith, ints, clamps) in
    let e4 : int_min bt (bottom t) ≡ int_min bt2 (bottom r) = omega (arith, ints, clamps) in
    one ∙ rw (e1, e2, e3, e4) refl ∙ sym two ∙ intersection_of-comm (intersection_of s t) r

-- a rectangle, from its edges and sides
pub between_is : (a : Rectangle) (l t r b : ℤ) → l <ℤ r → t <ℤ b → a.left ≡ l → a.top ≡ t → a.width ≡ int_gap l r → a.height ≡ int_gap t b → a ≡ between l t r b
between_is a l t r b h k e1 e2 e3 e4 =
    let p : open_between l t r b ≡ true = (Decides-open l t r b).1 (h, k) in
    rw p (rw (← e4, ← e3, ← e2, ← e1) refl)

-- the same where nothing lies between the edges
pub between_none : (l t r b : ℤ) → (r ≤ℤ l) ⊎ (b ≤ℤ t) → no_points ≡ between l t r b
between_none l t r b o =
    let p : open_between l t r b ≡ false = false_from _ false (λ k. let h = (Decides-open l t r b).0 k in let h0 : l <ℤ r = h.0 in let h1 : t <ℤ b = h.1 in absurd (omega (arith, ints))) refl in
    sym (between-closed l t r b p)

-- a side of what two rectangles share is no longer than theirs
pub side_limited : (x m s l r : ℤ) (w : ℕ) → w ≤ 2147483647 → l ≡ int_max x m → r ≡ int_min (int_min (x +ℤ pos w) (pos 2147483647)) s → l ≤ℤ r → int_gap l r ≤ 2147483647
side_limited x m s l r w h el er k = let g : (l +ℤ pos (int_gap l r)) ≡ r = gap_leads l r k in omega (arith, ints, clamps)

-- what a test says
pub below_is : (a b : ℤ) → int_lt a b ≡ true → a <ℤ b
below_is a b e = (Decides-int_lt a b).0 e

pub not_below_is : (a b : ℤ) → int_lt a b ≡ false → b ≤ℤ a
not_below_is a b e = grind (arith, ints)

inside_between : {P : Type 0} (image : Image P) (l t r b : ℤ) → pos 0 ≤ℤ l → pos 0 ≤ℤ t → r ≤ℤ pos image.width → b ≤ℤ pos image.height
    → r ≤ℤ pos 2147483647 → b ≤ℤ pos 2147483647 → (p : Bool) → open_between l t r b ≡ p → IsInside (between l t r b) image
inside_between image l t r b hl ht hw hh hr hb true e =
    let h = (Decides-open l t r b).0 e in
    let h0 : l <ℤ r = h.0 in let h1 : t <ℤ b = h.1 in
    let er = edge l r (omega (arith, ints)) hr in
    let eb = edge t b (omega (arith, ints)) hb in
    rw e (record { left = hl; top = ht; right = rw er hw; bottom = rw eb hh })
inside_between image l t r b hl ht hw hh hr hb false e =
    rw e (record { left = omega (arith, ints); top = omega (arith, ints); right = omega (arith, ints, clamps); bottom = omega (arith, ints, clamps) })

-- what a rectangle shares with an image lies inside the image
pub inside_image : {P : Type 0} (r : Rectangle) (image : Image P) → IsInside (intersection_of r (region_of image)) image
inside_image r image =
    let s : Rectangle = region_of image in
    inside_between image (int_max r.left s.left) (int_max r.top s.top) (int_min (right r) (right s)) (int_min (bottom r) (bottom s))
    (omega (arith, ints, clamps)) (omega (arith, ints, clamps)) (omega (arith, ints, clamps)) (omega (arith, ints, clamps))
    (omega (arith, ints, clamps)) (omega (arith, ints, clamps)) _ refl

-- a point of a picture of any size lies in the rectangle of all of them, if its coordinates are
-- below the limit
pub covers_point : (width height x y : ℕ) → x < 2147483647 → y < 2147483647 → x < width → y < height
    → covers (whole width height) (pos x) (pos y) ≡ true
covers_point width height x y hx hy lx ly =
    (Decides-lies (pos 0) (pos 0) (right (whole width height)) (bottom (whole width height)) (pos x) (pos y)).1
    ((omega (arith, ints, clamps), omega (arith, ints, clamps)), (omega (arith, ints, clamps), omega (arith, ints, clamps)))

-- a point of a raster does
pub covers_whole : (width height x y : ℕ) → width ≤ 2147483647 → height ≤ 2147483647 → x < width → y < height
    → covers (whole width height) (pos x) (pos y) ≡ true
covers_whole width height x y hw hh lx ly = covers_point width height x y (omega arith) (omega arith) lx ly

-- a rectangle lies in a raster of that width and height
pub record IsIn (r : Rectangle) (width height : ℕ) : Type 0 where
  pub left : pos 0 ≤ℤ r.left
  pub top : pos 0 ≤ℤ r.top
  pub across : (r.left +ℤ pos r.width) ≤ℤ pos width
  pub down : (r.top +ℤ pos r.height) ≤ℤ pos height

between_in : (l t r b : ℤ) (width height : ℕ) → pos 0 ≤ℤ l → pos 0 ≤ℤ t → r ≤ℤ pos width → b ≤ℤ pos height
    → (p : Bool) → open_between l t r b ≡ p → IsIn (between l t r b) width height
between_in l t r b width height hl ht hr hb true e =
    let h = (Decides-open l t r b).0 e in
    let h0 : l <ℤ r = h.0 in let h1 : t <ℤ b = h.1 in
    let er = gap_leads l r (omega (arith, ints)) in
    let eb = gap_leads t b (omega (arith, ints)) in
    rw e (record { left = hl; top = ht; across = rw er hr; down = rw eb hb })
between_in l t r b width height hl ht hr hb false e =
    rw e (record { left = omega (arith, ints); top = omega (arith, ints); across = omega (arith, ints); down = omega (arith, ints) })

-- what a rectangle shares with a raster lies in the raster
pub clipped_in : (r : Rectangle) (width height : ℕ) → IsIn (intersection_of r (whole width height)) width height
clipped_in r width height =
    let s : Rectangle = whole width height in
    between_in (int_max r.left s.left) (int_max r.top s.top) (int_min (right r) (right s)) (int_min (bottom r) (bottom s)) width height
    (omega (arith, ints, clamps)) (omega (arith, ints, clamps)) (omega (arith, ints, clamps)) (omega (arith, ints, clamps)) _ refl

-- the far edge of such a side
pub far_edge : (l : ℤ) (side limit edge : ℕ) → limit ≤ 2147483647 → pos 0 ≤ℤ l → (l +ℤ pos side) ≤ℤ pos limit
    → pos edge ≡ int_min (l +ℤ pos side) (pos 2147483647) → (edge ≡ natural l + side) × (edge ≤ limit)
far_edge (pos a) side limit edge small h k e = (omega (arith, ints, clamps, e, k, small), omega (arith, ints, clamps, e, k, small))
far_edge (negsuc a) side limit edge small h k e = absurd (omega (arith, ints))
