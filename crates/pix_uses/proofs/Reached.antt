-- which points a region of a picture and a paste reach
use Rattle.std.proofs.Common.{◌≡◌, ℕ, ◌<◌, ◌≤◌, ℤ, pos, ◌+ℤ◌, ◌-ℤ◌, ◌<ℤ◌, ◌≤ℤ◌, Bool, true, false, List, [], ◌∷◌, ◌++◌, arith, refl, ap}
use Rattle.std.specs.Bool.{Decides}
use Rattle.std.specs.Prelude.{not, int_lt, if◌then◌else◌, fold}
use Rattle.std.specs.Int.{int_min}
use Rattle.std.proofs.lemmas.Bool.Decides.{Decides-and}
use Rattle.std.proofs.lemmas.Int.{ints, clamps}
use Rattle.pix.specs.Region.{Rectangle, limit, right, bottom, covers}
use Rattle.pix_el.specs.Pixel.{Layout}
use Rattle.pix.specs.Run.{Effect, apply}
use Rattle.pix.specs.Reach.{is_below, has_offset, is_paired, natural, from_pair}

Decides-int_lt : (a b : ℤ) → Decides (int_lt a b) (a <ℤ b)
Decides-int_lt a b = (λ e. grind (arith, ints), λ h. grind (arith, ints))

Decides-not_int_lt : (a b : ℤ) → Decides (not (int_lt a b)) (b ≤ℤ a)
Decides-not_int_lt a b = (λ e. grind (arith, ints), λ h. grind (arith, ints))

-- the point lies between the sides of the rectangle
abbrev pub Covers : Rectangle → ℤ → ℤ → Type 0
Covers r x y = ((r.left ≤ℤ x) × (x <ℤ right r)) × ((r.top ≤ℤ y) × (y <ℤ bottom r))

pub Decides-covers : (r : Rectangle) (x y : ℤ) → Decides (covers r x y) (Covers r x y)
Decides-covers r x y =
    Decides-and _ _ (Decides-and _ _ (Decides-not_int_lt x r.left) (Decides-int_lt x (right r)))
    (Decides-and _ _ (Decides-not_int_lt y r.top) (Decides-int_lt y (bottom r)))

abbrev Below : ℕ → ℤ → Type 0
Below n i = (pos 0 ≤ℤ i) × (i <ℤ pos n)

Decides-below : (n : ℕ) (i : ℤ) → Decides (is_below n i) (Below n i)
Decides-below n i = Decides-and _ _ (Decides-not_int_lt i (pos 0)) (Decides-int_lt i (pos n))

Decides-offset : (r : Rectangle) (i j : ℤ) → Decides (has_offset r i j) (Below r.width i × Below r.height j)
Decides-offset r i j = Decides-and _ _ (Decides-below r.width i) (Decides-below r.height j)

-- the offset leads from both corners to points of both rectangles and both rasters
abbrev Paired : (to dest from source : Rectangle) → ℤ → ℤ → Type 0
Paired to dest from source i j =
    ((Below to.width i × Below to.height j) × (Below from.width i × Below from.height j))
    × ((Covers to (to.left +ℤ i) (to.top +ℤ j) × Covers dest (to.left +ℤ i) (to.top +ℤ j))
    × (Covers from (from.left +ℤ i) (from.top +ℤ j) × Covers source (from.left +ℤ i) (from.top +ℤ j)))

Decides-paired : (to dest from source : Rectangle) (i j : ℤ) → Decides (is_paired to dest from source i j) (Paired to dest from source i j)
Decides-paired to dest from source i j =
    Decides-and _ _ (Decides-and _ _ (Decides-offset to i j) (Decides-offset from i j))
    (Decides-and _ _
    (Decides-and _ _ (Decides-covers to (to.left +ℤ i) (to.top +ℤ j)) (Decides-covers dest (to.left +ℤ i) (to.top +ℤ j)))
    (Decides-and _ _ (Decides-covers from (from.left +ℤ i) (from.top +ℤ j)) (Decides-covers source (from.left +ℤ i) (from.top +ℤ j))))

-- the region from the corner (x, y) on, and that of all points of a raster
abbrev pub onwards : ℤ → ℤ → Rectangle
onwards x y = record { left = x; top = y; width = limit; height = limit }

abbrev pub whole : ℕ → ℕ → Rectangle
whole width height = record { left = pos 0; top = pos 0; width = width; height = height }

-- the one pair that there is, where there is one
one_pair : {X : Type 0} (get : ℕ → ℕ → X) (b : Bool) (m n i j : ℕ) → b ≡ true → m ≡ i → n ≡ j → (if b then get m n ∷ [] else []) ≡ get i j ∷ []
one_pair get b m n i j hb hm hn = rw (hb, hm, hn) refl

no_pair : {X : Type 0} (get : ℕ → ℕ → X) (b : Bool) (m n : ℕ) → (b ≡ true → ⊥) → (if b then get m n ∷ [] else []) ≡ []
no_pair get true m n h = absurd (h refl)
no_pair get false m n h = refl

natural_is : (z : ℤ) (n : ℕ) → z ≡ pos n → natural z ≡ n
natural_is z n e = ap natural e

pub corner_is : (a b x y : ℤ) → a ≡ x → b ≡ y → onwards a b ≡ onwards x y
corner_is a b x y ea eb = rw (ea, eb) refl

-- a point of the destination that is the corner and so many columns and rows gets what the source
-- has there
pub reached : {X : Type 0} (x y : ℤ) (dw dh sw sh : ℕ) (get : ℕ → ℕ → X) (column row i j : ℕ)
    → covers (whole dw dh) (pos column) (pos row) ≡ true → covers (whole sw sh) (pos i) (pos j) ≡ true
    → pos column ≡ x +ℤ pos i → pos row ≡ y +ℤ pos j
    → from_pair (onwards x y) (whole dw dh) (onwards (pos 0) (pos 0)) (whole sw sh) get column row ≡ get i j ∷ []
reached x y dw dh sw sh get column row i j hd hs ec er =
    let cd : Covers (whole dw dh) (pos column) (pos row) = (Decides-covers (whole dw dh) (pos column) (pos row)).0 hd in
    let cs : Covers (whole sw sh) (pos i) (pos j) = (Decides-covers (whole sw sh) (pos i) (pos j)).0 hs in
    let d1 : pos column <ℤ right (whole dw dh) = cd.0.1 in
    let d2 : pos row <ℤ bottom (whole dw dh) = cd.1.1 in
    let s1 : pos i <ℤ right (whole sw sh) = cs.0.1 in
    let s2 : pos j <ℤ bottom (whole sw sh) = cs.1.1 in
    let di : (pos column -ℤ x) ≡ pos i = omega (arith, ints) in
    let dj : (pos row -ℤ y) ≡ pos j = omega (arith, ints) in
    let bi : Below limit (pos column -ℤ x) = (omega (arith, ints), omega (arith, ints, clamps)) in
    let bj : Below limit (pos row -ℤ y) = (omega (arith, ints), omega (arith, ints, clamps)) in
    let to : Covers (onwards x y) (x +ℤ (pos column -ℤ x)) (y +ℤ (pos row -ℤ y)) =
    ((omega (arith, ints), omega (arith, ints, clamps)), (omega (arith, ints), omega (arith, ints, clamps))) in
    let dest : Covers (whole dw dh) (x +ℤ (pos column -ℤ x)) (y +ℤ (pos row -ℤ y)) =
    ((omega (arith, ints), omega (arith, ints, clamps)), (omega (arith, ints), omega (arith, ints, clamps))) in
    let from : Covers (onwards (pos 0) (pos 0)) (pos 0 +ℤ (pos column -ℤ x)) (pos 0 +ℤ (pos row -ℤ y)) =
    ((omega (arith, ints), omega (arith, ints, clamps)), (omega (arith, ints), omega (arith, ints, clamps))) in
    let source : Covers (whole sw sh) (pos 0 +ℤ (pos column -ℤ x)) (pos 0 +ℤ (pos row -ℤ y)) =
    ((omega (arith, ints), omega (arith, ints, clamps)), (omega (arith, ints), omega (arith, ints, clamps))) in
    one_pair get (is_paired (onwards x y) (whole dw dh) (onwards (pos 0) (pos 0)) (whole sw sh) (pos column -ℤ x) (pos row -ℤ y))
    (natural (pos 0 +ℤ (pos column -ℤ x))) (natural (pos 0 +ℤ (pos row -ℤ y))) i j
    ((Decides-paired (onwards x y) (whole dw dh) (onwards (pos 0) (pos 0)) (whole sw sh) (pos column -ℤ x) (pos row -ℤ y)).1 (((bi, bj), (bi, bj)), ((to, dest), (from, source))))
    (natural_is (pos 0 +ℤ (pos column -ℤ x)) i (omega (arith, ints))) (natural_is (pos 0 +ℤ (pos row -ℤ y)) j (omega (arith, ints)))

-- a point outside of the rectangle that the source takes up gets nothing
pub missed : {X : Type 0} (x y : ℤ) (dw dh sw sh : ℕ) (get : ℕ → ℕ → X) (column row : ℕ)
    → covers (record { left = x; top = y; width = sw; height = sh }) (pos column) (pos row) ≡ false
    → from_pair (onwards x y) (whole dw dh) (onwards (pos 0) (pos 0)) (whole sw sh) get column row ≡ []
missed x y dw dh sw sh get column row outside =
    let i = pos column -ℤ x in
    let j = pos row -ℤ y in
    let r : Rectangle = record { left = x; top = y; width = sw; height = sh } in
    no_pair get (is_paired (onwards x y) (whole dw dh) (onwards (pos 0) (pos 0)) (whole sw sh) i j) (natural (pos 0 +ℤ i)) (natural (pos 0 +ℤ j))
    (λ e. let p : Paired (onwards x y) (whole dw dh) (onwards (pos 0) (pos 0)) (whole sw sh) i j =
    (Decides-paired (onwards x y) (whole dw dh) (onwards (pos 0) (pos 0)) (whole sw sh) i j).0 e in
    let d1 : (x +ℤ (pos column -ℤ x)) <ℤ right (whole dw dh) = p.1.0.1.0.1 in
    let d2 : (y +ℤ (pos row -ℤ y)) <ℤ bottom (whole dw dh) = p.1.0.1.1.1 in
    let s1 : (pos 0 +ℤ (pos column -ℤ x)) <ℤ right (whole sw sh) = p.1.1.1.0.1 in
    let s2 : (pos 0 +ℤ (pos row -ℤ y)) <ℤ bottom (whole sw sh) = p.1.1.1.1.1 in
    let s3 : pos 0 ≤ℤ (pos 0 +ℤ (pos column -ℤ x)) = p.1.1.1.0.0 in
    let s4 : pos 0 ≤ℤ (pos 0 +ℤ (pos row -ℤ y)) = p.1.1.1.1.0 in
    let inside : Covers r (pos column) (pos row) = ((omega (arith, ints), omega (arith, ints, clamps)), (omega (arith, ints), omega (arith, ints, clamps))) in
    let h : covers r (pos column) (pos row) ≡ true = (Decides-covers r (pos column) (pos row)).1 inside in
    cc)

-- the same, where the two regions are known by equations
pub reached_by : {X : Type 0} (to from : Rectangle) (x y : ℤ) (dw dh sw sh : ℕ) (get : ℕ → ℕ → X) (column row i j : ℕ)
    → to ≡ onwards x y → from ≡ onwards (pos 0) (pos 0)
    → covers (whole dw dh) (pos column) (pos row) ≡ true → covers (whole sw sh) (pos i) (pos j) ≡ true
    → pos column ≡ x +ℤ pos i → pos row ≡ y +ℤ pos j
    → from_pair to (whole dw dh) from (whole sw sh) get column row ≡ get i j ∷ []
reached_by to from x y dw dh sw sh get column row i j et ef hd hs ec er = rw (et, ef) (reached x y dw dh sw sh get column row i j hd hs ec er)

pub missed_by : {X : Type 0} (to from : Rectangle) (x y : ℤ) (dw dh sw sh : ℕ) (get : ℕ → ℕ → X) (column row : ℕ)
    → to ≡ onwards x y → from ≡ onwards (pos 0) (pos 0)
    → covers (record { left = x; top = y; width = sw; height = sh }) (pos column) (pos row) ≡ false
    → from_pair to (whole dw dh) from (whole sw sh) get column row ≡ []
missed_by to from x y dw dh sw sh get column row et ef outside = rw (et, ef) (missed x y dw dh sw sh get column row outside)

-- a point of a raster in the words of its sides
pub column_is : (w h x y : ℕ) → covers (whole w h) (pos x) (pos y) ≡ true → x < w
column_is w h x y e =
    let c : Covers (whole w h) (pos x) (pos y) = (Decides-covers (whole w h) (pos x) (pos y)).0 e in
    let k : pos x <ℤ int_min (pos 0 +ℤ pos w) (pos limit) = c.0.1 in omega (arith, ints, clamps)

pub row_is : (w h x y : ℕ) → covers (whole w h) (pos x) (pos y) ≡ true → y < h
row_is w h x y e =
    let c : Covers (whole w h) (pos x) (pos y) = (Decides-covers (whole w h) (pos x) (pos y)).0 e in
    let k : pos y <ℤ int_min (pos 0 +ℤ pos h) (pos limit) = c.1.1 in omega (arith, ints, clamps)

-- a region from the first column and row on reaches the points below its sides
pub in_rows_above : (r : Rectangle) (w h x y : ℕ) → r ≡ whole w h → x < w → w ≤ limit → y < h → h ≤ limit → covers r (pos x) (pos y) ≡ true
in_rows_above r w h x y e hx hw hy hh =
    rw e ((Decides-covers (whole w h) (pos x) (pos y)).1 ((omega (arith, ints), omega (arith, ints, clamps)), (omega (arith, ints), omega (arith, ints, clamps))))

-- the run of one command that reaches the point by a region
pub reached_run : (layout : Layout) (pixel : List ℕ) (b : Bool) (effect : Effect) → b ≡ true
    → fold (apply layout) pixel ((if b then effect ∷ [] else []) ++ []) ≡ apply layout pixel effect
reached_run layout pixel b effect e = rw e refl
