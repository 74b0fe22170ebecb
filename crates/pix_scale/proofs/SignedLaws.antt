-- The laws of pictures at another size by weights that may be negative.
use Rattle.std.specs.Prelude.{◌≡◌, ℕ, ℤ, zero, suc, pos, ◌+ℤ◌, ◌-ℤ◌, ◌*ℤ◌, ◌+◌, ◌-◌, ◌*◌, ◌/◌, ◌<◌, ◌≤◌, Bool, true, false, nat_lt, refl, if◌then◌else◌}
use Rattle.std.proofs.Common.{inl, inr, arith, ap, sym, subst, ◌∙◌}
use borrow.Author.Differences.{up, down}
use Rattle.std.proofs.lemmas.Int.{ints}
use Rattle.std.proofs.lemmas.Bool.{lt-ltb, cases_Bool, ltb-true}
use Rattle.pix_el.specs.Pixel.{Layout}
use Rattle.pix_chan.specs.Nearest.{nearest}
use Rattle.pix_scale.specs.Axis.{total, rounded_part, lowest}
use Rattle.pix_scale.specs.declared.filter.Filter.TheVariants.{Nearest}
use Rattle.pix_scale.specs.declared.filter.Kernel.TheVariants.{Point}
use Rattle.pix_scale.specs.Table.{IsSide}
use Rattle.pix_scale.specs.Signed.{Taps, total_of, sum_by, top_by, cut_by, adds, takes, part_of, taps_of_filter, first_tap, first_near, whole_of, is_used, taps_by}
use Rattle.pix_scale.specs.SignedCall.{signed_taps}
use Rattle.pix_scale.specs.SignedTable.{near_weight}
use Rattle.pix_scale.specs.declared.filter.SignedFilter.{SignedFilter}
use Rattle.pix_scale.proofs.Reciprocals.{quotient_is}
use Rattle.pix_scale.proofs.Kernels.{nearest_within}
use Rattle.pix_scale.proofs.ScaledLaws.{nearest_whole, side_of}
use Rattle.pix_scale.proofs.Singles.{own}
use Rattle.pix_scale.proofs.SignedSums.{nearest_lower, total_of_same, total_left}
use Rattle.pix_scale.proofs.SignedWeights.{used_taps, near_taps, is_used_taps, is_near_taps, used, parts_total, rounded_whole, near_at, near_not, near_total}
use Rattle.pix_scale.proofs.Windows.{total_part, total_nothing}

-- a color is at most the alpha
pub cut_premultiplied : (layout : Layout) (sums : ℕ → ℤ) (c : ℕ) → layout.alpha < layout.count → cut_by layout sums c ≤ cut_by layout sums layout.alpha
cut_premultiplied layout sums c lt =
    let d : ℤ = pos 268435456 in
    let t : ℕ = top_by layout sums in
    let a : ℕ = nearest layout.max (sums layout.alpha) d in
    let top : t ≡ a = ap (λ (b : Bool). if b then a else layout.max) (lt-ltb layout.alpha layout.count lt) in
    let few = nearest_lower layout.max layout.max (sums layout.alpha) d (omega arith) in
    let le : t ≤ layout.max = omega (arith, top, few) in
    omega (arith, nearest_lower t t (sums c) d (omega arith), nearest_lower t layout.max (sums layout.alpha) d le, top)

-- a common factor of all terms
times_sum : (x y z : ℤ) → (x +ℤ y) *ℤ z ≡ x *ℤ z +ℤ y *ℤ z
times_sum x y z =
    let s : ℤ = x +ℤ y in
    let e : up s + (down x + down y) ≡ down s + (up x + up y) = omega (arith, ints) in
    omega (arith, ints, ap (λ k. k * up z) e, ap (λ k. k * down z) e)

pub total_times : (n : ℕ) (f : ℕ → ℤ) (z : ℤ) → total_of n (λ k. f k *ℤ z) ≡ total_of n f *ℤ z
total_times zero f z = omega (arith, ints)
total_times (suc n) f z = ap (λ s. s +ℤ f n *ℤ z) (total_times n f z) ∙ sym (times_sum (total_of n f) (f n) z)

-- the sum of one value
pub sum_value : (across down : Taps) (a : ℕ) → total_of across.count across.weight ≡ pos 16384 → total_of down.count down.weight ≡ pos 16384
    → sum_by across down (λ u v. a) ≡ pos (268435456 * a)
sum_value across down a e f =
    let inner : total_of down.count (λ v. down.weight v *ℤ pos a) ≡ pos (16384 * a) =
    total_times down.count down.weight (pos a) ∙ ap (λ z. z *ℤ pos a) f in
    total_times across.count across.weight (total_of down.count (λ v. down.weight v *ℤ pos a))
    ∙ ap (λ z. z *ℤ total_of down.count (λ v. down.weight v *ℤ pos a)) e
    ∙ ap (λ z. pos 16384 *ℤ z) inner
    ∙ ap (λ k. pos k) (let g : 16384 * (16384 * a) ≡ 268435456 * a = omega arith in g)

-- what is cut at a number at least as large is that number
cut_known : (layout : Layout) (sums : ℕ → ℤ) (f : ℕ → ℕ) (c : ℕ) → sums c ≡ pos (268435456 * f c) → (layout.alpha < layout.count → sums layout.alpha ≡ pos (268435456 * f layout.alpha))
    → f c ≤ layout.max → (layout.alpha < layout.count → f layout.alpha ≤ layout.max) → (layout.alpha < layout.count → f c ≤ f layout.alpha)
    → cut_by layout sums c ≡ f c
cut_known layout sums f c e g h k l =
    let d : ℤ = pos 268435456 in
    let a : ℕ = nearest layout.max (sums layout.alpha) d in
    let top : (b : Bool) → nat_lt layout.alpha layout.count ≡ b → f c ≤ (if b then a else layout.max) = λ (b : Bool).
    elim b as (λ b. nat_lt layout.alpha layout.count ≡ b → f c ≤ (if b then a else layout.max)) [
      | true ↦ λ t.
          let lt = ltb-true layout.alpha layout.count t in
          let same : a ≡ f layout.alpha = ap (λ z. nearest layout.max z d) (g lt) ∙ nearest_whole layout.max (f layout.alpha) 268435456 (omega arith) (k lt) in
          let le = l lt in omega arith
      | false ↦ λ t. h
    ] in
    ap (λ z. nearest (top_by layout sums) z d) e ∙ nearest_whole (top_by layout sums) (f c) 268435456 (omega arith) (top (nat_lt layout.alpha layout.count) refl)

pub cut_value : (layout : Layout) (across down : Taps) (a : ℕ → ℕ) (c : ℕ) → total_of across.count across.weight ≡ pos 16384 → total_of down.count down.weight ≡ pos 16384
    → a c ≤ layout.max → (layout.alpha < layout.count → a layout.alpha ≤ layout.max) → (layout.alpha < layout.count → a c ≤ a layout.alpha)
    → cut_by layout (λ ch. sum_by across down (λ u v. a ch)) c ≡ a c
cut_value layout across down a c e f h k l =
    cut_known layout (λ ch. sum_by across down (λ u v. a ch)) a c (sum_value across down (a c) e f) (λ lt. sum_value across down (a layout.alpha) e f) h k l

-- differences add up to that of the sums
total_minus : (n : ℕ) (p q : ℕ → ℕ) → total_of n (λ k. pos (p k) -ℤ pos (q k)) ≡ pos (total n p) -ℤ pos (total n q)
total_minus zero p q = omega (arith, ints)
total_minus (suc n) p q = omega (arith, ints, total_minus n p q)

used_adds : (filter : SignedFilter) (places n m i : ℕ) → is_used filter places n m i ≡ true
    → total_of (used_taps filter places n m i).count (used_taps filter places n m i).weight ≡ pos 16384
used_adds filter places n m i is =
    let count : ℕ = taps_of_filter filter places n m in
    let first : ℕ = first_tap filter places n m i in
    let whole : ℕ = whole_of filter places n m i in
    let t : ℕ = total count (takes filter n m i first) in
    let u = used n m t whole is in
    let some = u.some in
    let a = parts_total count whole (adds filter n m i first) some in
    let b = parts_total count whole (takes filter n m i first) some in
    let more : total count (adds filter n m i first) ≡ t + whole = omega (arith, some) in
    let c = ap (λ z. rounded_part z (2 * whole)) more ∙ rounded_whole t whole some in
    total_minus count (part_of (adds filter n m i first) whole) (part_of (takes filter n m i first) whole) ∙ omega (arith, ints, a, b, c)

near_adds : (filter : SignedFilter) (places size n m i : ℕ) → IsSide Point places size n m → i < size
    → total_of (near_taps filter places n m i).count (near_taps filter places n m i).weight ≡ pos 16384
near_adds filter places size n m i side lt =
    let count : ℕ = taps_of_filter filter places n m in
    let first : ℕ = first_near filter places n m i in
    let place : ℕ = (2 * i + 1) * n / (2 * m) in
    let within = nearest_within places size n m i side lt in
    let some : 0 < places = let s = side.some_n in let u = side.short in omega arith in
    let all = near_total first place count (omega arith) (omega (arith, within, some)) in
    let none = total_nothing count (λ k. 0) (λ k l. refl) in
    total_minus count (near_weight first place) (λ k. 0) ∙ omega (arith, ints, all, none)

row_adds : (filter : SignedFilter) (places size n m i : ℕ) → IsSide Point places size n m → i < size
    → total_of (taps_by filter places n m i).count (taps_by filter places n m i).weight ≡ pos 16384
row_adds filter places size n m i side lt = elim (cases_Bool (is_used filter places n m i)) [
  | inl t ↦ subst (λ (x : Taps). total_of x.count x.weight ≡ pos 16384) (sym (is_used_taps filter places n m i t)) (used_adds filter places n m i t)
  | inr f ↦ subst (λ (x : Taps). total_of x.count x.weight ≡ pos 16384) (sym (is_near_taps filter places n m i f)) (near_adds filter places size n m i side lt)
]

-- the weights of every filter add up
pub signed_adds_up : (filter : SignedFilter) (n m i : ℕ) → 0 < n → 0 < m → n ≤ 65535 → i < m
    → total_of (signed_taps filter n m i).count (signed_taps filter n m i).weight ≡ pos 16384
signed_adds_up filter n m i p q few lt = row_adds filter n m (lowest n m) (lowest m n) i (side_of Nearest n m p q few) lt

-- where one place alone counts, a sum is its number
near_pick : (first place count : ℕ) (h : ℕ → ℕ) → first ≤ place → place < first + count → total count (λ v. near_weight first place v * h (first + v)) ≡ 16384 * h place
near_pick first place count h lo hi =
    let c : ℕ = place - first in
    let one = near_at first place (c + 0) (omega arith) in
    let e : first + (c + 0) ≡ place = omega arith in
    total_part count c 1 (λ v. near_weight first place v * h (first + v)) (omega arith)
    (λ j l. ap (λ w. w * h (first + j)) (near_not first place j (omega arith)) ∙ omega arith)
    (λ j l k. ap (λ w. w * h (first + j)) (near_not first place j (omega arith)) ∙ omega arith)
    ∙ rw (one, e) (omega arith)

near_column : (first place count : ℕ) (h : ℕ → ℕ) → first ≤ place → place < first + count
    → total_of count (λ v. (pos (near_weight first place v) -ℤ pos 0) *ℤ pos (h (first + v))) ≡ pos (16384 * h place)
near_column first place count h lo hi =
    let none = total_nothing count (λ v. 0 * h (first + v)) (λ k l. omega arith) in
    total_left count (near_weight first place) (λ v. 0) (λ v. h (first + v)) ∙ omega (arith, ints, near_pick first place count h lo hi, none)

-- a side that keeps its length
own_taps : (filter : SignedFilter) (n i : ℕ) → i < n → signed_taps filter n n i ≡ near_taps filter n 1 1 i
own_taps filter n i lt =
    let e = own n (omega arith) in
    ap (λ l. taps_by filter n l l i) e ∙ is_near_taps filter n 1 1 i refl

own_place : (i : ℕ) → (2 * i + 1) * 1 / (2 * 1) ≡ i
own_place i = quotient_is ((2 * i + 1) * 1) (2 * 1) i (omega arith) (omega arith)

own_sum : (filter : SignedFilter) (width height : ℕ) (get : ℕ → ℕ → ℕ) (x y : ℕ) → x < width → y < height
    → sum_by (near_taps filter width 1 1 x) (near_taps filter height 1 1 y) get ≡ pos (268435456 * get x y)
own_sum filter width height get x y lx ly =
    let p : ℕ = (2 * x + 1) * 1 / (2 * 1) in
    let q : ℕ = (2 * y + 1) * 1 / (2 * 1) in
    let a = own_place x in
    let b = own_place y in
    let m : ℕ = taps_of_filter filter width 1 1 in
    let n : ℕ = taps_of_filter filter height 1 1 in
    let f : ℕ = first_near filter width 1 1 x in
    let s : ℕ = first_near filter height 1 1 y in
    let w : ℕ → ℤ = λ u. pos (near_weight f p u) -ℤ pos 0 in
    let column : ℕ → ℤ = λ u. total_of n (λ v. (pos (near_weight s q v) -ℤ pos 0) *ℤ pos (get (f + u) (s + v))) in
    let rows = λ (u : ℕ). near_column s q n (get (f + u)) (omega (arith, b)) (omega (arith, b, ly)) in
    let there : get p q ≡ get x y = ap (λ z. get z q) a ∙ ap (λ z. get x z) b in
    total_of_same m (λ u. w u *ℤ column u) (λ u. w u *ℤ pos (16384 * get (f + u) q)) (λ u lu. ap (λ z. w u *ℤ z) (rows u))
    ∙ near_column f p m (λ u. 16384 * get u q) (omega (arith, a)) (omega (arith, a, lx))
    ∙ ap (λ k. pos k) (omega (arith, there))

pub own_size : (layout : Layout) (filter : SignedFilter) (width height : ℕ) (get : ℕ → ℕ → ℕ → ℕ) (x y c : ℕ) → x < width → y < height → get c x y ≤ layout.max
    → (layout.alpha < layout.count → get layout.alpha x y ≤ layout.max) → (layout.alpha < layout.count → get c x y ≤ get layout.alpha x y)
    → cut_by layout (λ ch. sum_by (signed_taps filter width width x) (signed_taps filter height height y) (get ch)) c ≡ get c x y
own_size layout filter width height get x y c lx ly h k l =
    let sums : ℕ → ℤ = λ ch. sum_by (signed_taps filter width width x) (signed_taps filter height height y) (get ch) in
    let is : (ch : ℕ) → sums ch ≡ pos (268435456 * get ch x y) = λ ch.
    ap (λ t. sum_by t (signed_taps filter height height y) (get ch)) (own_taps filter width x lx)
    ∙ ap (λ t. sum_by (near_taps filter width 1 1 x) t (get ch)) (own_taps filter height y ly)
    ∙ own_sum filter width height (get ch) x y lx ly in
    cut_known layout sums (λ ch. get ch x y) c (is c) (λ lt. is layout.alpha) h k l
