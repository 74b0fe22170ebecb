-- Axes of which one place counts all: the same size, and the nearest place at a whole factor.
use Rattle.std.specs.Prelude.{◌≡◌, ◌≢◌, ℕ, pos, ◌+◌, ◌-◌, ◌*◌, ◌/◌, ◌<◌, ◌≤◌, Bool, if◌then◌else◌}
use Rattle.std.proofs.Common.{inl, inr, arith, refl, ap, sym, subst, ◌∙◌}
use Prim.Native.Nat.{◌∣◌}
use Rattle.std.specs.Int.{IsGcd, abs_diff}
use Rattle.std.proofs.Math.Nat.{div-mul-le_self, lt-mul-div-succ, dvd-mul_left, mul-div_cancel}
use Rattle.std.proofs.lemmas.Bool.{cases_lt, le-leb}
use Rattle.std.proofs.lemmas.Nat.{div_below}
use Rattle.std.proofs.lemmas.Nat.Gcd.{IsGcd-swap}
use Rattle.pix_chan.specs.Nearest.{nearest}
use Rattle.pix_scale.specs.Axis.{total, Axis, axis, axis_of, kernel_of, lowest, overlap, held, scaled}
use Rattle.pix_scale.specs.declared.filter.Filter.{Filter}
use Rattle.pix_scale.specs.declared.filter.Filter.TheVariants.{Nearest, Area, Linear}
use Rattle.pix_scale.specs.declared.filter.Kernel.{Kernel}
use Rattle.pix_scale.specs.declared.filter.Kernel.TheVariants.{Point, Box, Line, Triangle}
use Rattle.pix_scale.proofs.Places.{nearest_place, column}
use Rattle.pix_scale.specs.Table.{side_axis, IsSide}
use Rattle.pix_scale.specs.declared.side.Side.{Side}
use Rattle.pix_scale.proofs.Kernels.{only_same, only_apart, nearest_within}
use Rattle.pix_scale.proofs.Ratios.{lowest_is}
use Rattle.pix_scale.proofs.Reciprocals.{quotient_is}
use Rattle.pix_scale.proofs.ScaledLaws.{nearest_whole, positive}
use Rattle.pix_scale.proofs.Windows.{total_window}

-- place p alone counts for place i, and it counts all
record One (axis : Axis) (i p : ℕ) : Type 0 where
  some : 0 < axis.whole
  inside : p < axis.places
  all : axis.weight i p ≡ axis.whole
  before : (j : ℕ) → j < p → axis.weight i j ≡ 0
  behind : (j : ℕ) → p < j → axis.weight i j ≡ 0

one_total : (axis : Axis) (i p : ℕ) (f : ℕ → ℕ) → One axis i p → total axis.places (λ j. axis.weight i j * f j) ≡ axis.whole * f p
one_total axis i p f one =
    let inside = one.inside in
    let window = total_window axis.places p 1 (axis.weight i) f (omega arith) one.before (λ j l in_. one.behind j (omega arith)) in
    let e : p + 0 ≡ p = omega arith in
    window ∙ rw (e, one.all) (omega arith)

one_scaled : (max : ℕ) (across down : Axis) (f : ℕ → ℕ → ℕ) (x y p q : ℕ) → One across x p → One down y q → f p q ≤ max
    → scaled max across down f x y ≡ f p q
one_scaled max across down f x y p q a b h =
    let col : column down y (f p) ≡ down.whole * f p q = one_total down y q (f p) b in
    let all : total across.places (λ u. across.weight x u * column down y (f u)) ≡ across.whole * down.whole * f p q =
    one_total across x p (λ u. column down y (f u)) a ∙ rw col (omega arith) in
    ap (λ s. nearest max (pos s) (pos (across.whole * down.whole))) all
    ∙ nearest_whole max (f p q) (across.whole * down.whole) (positive across.whole down.whole a.some b.some) h

-- by a point, the nearest place counts all
nearest_one : (places size n m i : ℕ) → IsSide Point places size n m → i < size → One (axis_of Point places n m) i (nearest_place n m i)
nearest_one places size n m i side lt = record {
  some = omega arith;
  inside = nearest_within places size n m i side lt;
  all = only_same (nearest_place n m i) (nearest_place n m i) refl;
  before = λ j l. only_apart j (nearest_place n m i) (omega arith);
  behind = λ j l. only_apart j (nearest_place n m i) (omega arith);
}

one_by : (kernel : Kernel) (places size n m i : ℕ) → kernel ≡ Point → IsSide kernel places size n m → i < size → One (axis_of kernel places n m) i (nearest_place n m i)
one_by kernel places size n m i e side lt =
    subst (λ k. One (axis_of k places n m) i (nearest_place n m i)) (sym e) (nearest_one places size n m i (subst (λ k. IsSide k places size n m) e side) lt)

-- the pixel by points is the nearest one
pub nearest_scaled : (max : ℕ) (across down : Side) (width height : ℕ) (f : ℕ → ℕ → ℕ) (x y : ℕ) → across.kernel ≡ Point → down.kernel ≡ Point
    → IsSide across.kernel across.places width across.n across.m → IsSide down.kernel down.places height down.n down.m → x < width → y < height
    → f (nearest_place across.n across.m x) (nearest_place down.n down.m y) ≤ max
    → scaled max (side_axis across) (side_axis down) f x y ≡ f (nearest_place across.n across.m x) (nearest_place down.n down.m y)
nearest_scaled max across down width height f x y e g a b lx ly h =
    one_scaled max (side_axis across) (side_axis down) f x y (nearest_place across.n across.m x) (nearest_place down.n down.m y)
    (one_by across.kernel across.places width across.n across.m x e a lx) (one_by down.kernel down.places height down.n down.m y g b ly) h

-- the nearest place at a whole factor
repeats : (k i : ℕ) → 0 < k → nearest_place 1 k i ≡ i / k
repeats k i some =
    let q : ℕ = i / k in
    let lo : q * k ≤ i = div-mul-le_self i k in
    let hi = lt-mul-div-succ i some in
    quotient_is ((2 * i + 1) * 1) (2 * k) q (omega (arith, lo)) (omega (arith, hi))

point_one : (n k i : ℕ) → 0 < k → i < k * n → One (axis_of Point n 1 k) i (i / k)
point_one n k i some lt =
    let e = repeats k i some in
    record {
      some = omega arith;
      inside = div_below i k n some (omega arith);
      all = only_same (i / k) (nearest_place 1 k i) (sym e);
      before = λ j l. only_apart j (nearest_place 1 k i) (let ne : j ≢ nearest_place 1 k i = omega (arith, e) in ne);
      behind = λ j l. only_apart j (nearest_place 1 k i) (let ne : j ≢ nearest_place 1 k i = omega (arith, e) in ne);
    }

box_one : (n i : ℕ) → i < n → One (axis_of Box n 1 1) i i
box_one n i lt = record {
  some = omega arith;
  inside = lt;
  all = let e : overlap 1 1 i i ≡ 1 = omega arith in e;
  before = λ j l. let e : overlap 1 1 i j ≡ 0 = omega arith in e;
  behind = λ j l. let e : overlap 1 1 i j ≡ 0 = omega arith in e;
}

line_one : (n i : ℕ) → i < n → One (axis_of Line n 1 1) i i
line_one n i lt =
    let at : held n 1 1 i ≡ 2 * i + 1 = omega arith in
    record {
      some = omega arith;
      inside = lt;
      all = let e : 2 * 1 - abs_diff ((2 * i + 1) * 1) (held n 1 1 i) ≡ 2 * 1 = omega (arith, at) in e;
      before = λ j l. let e : 2 * 1 - abs_diff ((2 * j + 1) * 1) (held n 1 1 i) ≡ 0 = omega (arith, at) in e;
      behind = λ j l. let e : 2 * 1 - abs_diff ((2 * j + 1) * 1) (held n 1 1 i) ≡ 0 = omega (arith, at) in e;
    }

-- the terms of a whole factor
gcd_times : (n k : ℕ) → IsGcd n (k * n) n
gcd_times n k = (subst (λ m. n ∣ m) (let e : 1 * n ≡ n = omega arith in e) (dvd-mul_left n 1), dvd-mul_left n k, λ d a b. a)

least : (n k : ℕ) → 0 < n → 0 < k * n → lowest n (k * n) ≡ 1
least n k p q = sym (lowest_is n (k * n) n p q p (gcd_times n k)) ∙ quotient_is n n 1 (omega arith) (omega arith)

factor : (n k : ℕ) → 0 < n → 0 < k * n → lowest (k * n) n ≡ k
factor n k p q = sym (lowest_is (k * n) n n q p p (IsGcd-swap n (k * n) n (gcd_times n k))) ∙ mul-div_cancel k p

some_places : (n k i : ℕ) → i < k * n → 0 < n
some_places n k i lt = elim (cases_lt 0 n) [
  | inl l ↦ l
  | inr l ↦ let z : n ≡ 0 = omega arith in absurd (omega (arith, ap (λ m. k * m) z))
]

some_factor : (n k i : ℕ) → i < k * n → 0 < k
some_factor n k i lt = elim (cases_lt 0 k) [
  | inl l ↦ l
  | inr l ↦ let z : k ≡ 0 = omega arith in absurd (omega (arith, ap (λ m. m * n) z))
]

times_one : (n k i : ℕ) → i < k * n → One (axis Nearest n (k * n)) i (i / k)
times_one n k i lt =
    let p = some_places n k i lt in
    subst (λ m. One (axis_of Point n (lowest n (k * n)) m) i (i / k)) (sym (factor n k p (omega arith)))
    (subst (λ l. One (axis_of Point n l k) i (i / k)) (sym (least n k p (omega arith))) (point_one n k i (some_factor n k i lt) lt))

pub scaled_times : (max k l width height : ℕ) (f : ℕ → ℕ → ℕ) (x y : ℕ) → x < k * width → y < l * height → f (x / k) (y / l) ≤ max
    → scaled max (axis Nearest width (k * width)) (axis Nearest height (l * height)) f x y ≡ f (x / k) (y / l)
scaled_times max k l width height f x y lx ly h =
    one_scaled max (axis Nearest width (k * width)) (axis Nearest height (l * height)) f x y (x / k) (y / l) (times_one width k x lx) (times_one height l y ly) h

-- the terms of the same size
pub own : (n : ℕ) → 0 < n → lowest n n ≡ 1
own n p =
    let e : 1 * n ≡ n = omega arith in
    subst (λ m. lowest n m ≡ 1) e (least n 1 p (omega arith))

kernel_one : (kernel : Kernel) (n i : ℕ) → kernel ≢ Triangle → i < n → One (axis_of kernel n 1 1) i i
kernel_one Point n i ne lt =
    let e : i / 1 ≡ i = quotient_is i 1 i (omega arith) (omega arith) in
    subst (λ p. One (axis_of Point n 1 1) i p) e (point_one n 1 i (omega arith) (omega arith))
kernel_one Box n i ne lt = box_one n i lt
kernel_one Line n i ne lt = line_one n i lt
kernel_one Triangle n i ne lt = absurd (ne refl)

own_kernel : (filter : Filter) (n : ℕ) → kernel_of filter n n ≢ Triangle
own_kernel Nearest n = λ e. cc
own_kernel Area n = λ e. cc
own_kernel Linear n = λ e.
    let k : kernel_of Linear n n ≡ Line = ap (λ (b : Bool). if b then Line else Triangle) (le-leb n n (omega arith)) in cc

own_one : (filter : Filter) (n i : ℕ) → i < n → One (axis filter n n) i i
own_one filter n i lt =
    subst (λ l. One (axis_of (kernel_of filter n n) n l l) i i) (sym (own n (omega arith))) (kernel_one (kernel_of filter n n) n i (own_kernel filter n) lt)

pub scaled_own : (max : ℕ) (filter : Filter) (width height : ℕ) (f : ℕ → ℕ → ℕ) (x y : ℕ) → x < width → y < height → f x y ≤ max
    → scaled max (axis filter width width) (axis filter height height) f x y ≡ f x y
scaled_own max filter width height f x y lx ly h =
    one_scaled max (axis filter width width) (axis filter height height) f x y x y (own_one filter width x lx) (own_one filter height y ly) h
