-- Pictures turned or mirrored before, and what a place counts for all new ones.
use Rattle.std.specs.Prelude.{◌≡◌, ◌≢◌, ℕ, ℤ, zero, suc, pos, ◌+ℤ◌, ◌*ℤ◌, ◌+◌, ◌-◌, ◌*◌, ◌<◌, ◌≤◌, min, Bool, if◌then◌else◌}
use Rattle.std.specs.Int.{abs_diff}
use Rattle.std.proofs.Common.{arith, refl, ap, subst, sym, ◌∙◌}
use borrow.Author.Differences.{up, down}
use Rattle.std.proofs.lemmas.Int.{ints}
use Rattle.std.proofs.Math.IntN.{*ℤ_comm}
use Rattle.std.proofs.Math.Nat.{mul-le-mul_right}
use Rattle.std.proofs.lemmas.Bool.{le-leb}
use Rattle.pix_chan.specs.Nearest.{nearest}
use Rattle.pix_scale.specs.Axis.{total, Axis, axis, axis_of, kernel_of, lowest, overlap, held, scaled}
use Rattle.pix_scale.specs.Signed.{Taps, total_of, sum_by}
use Rattle.pix_scale.specs.Table.{IsSide}
use Rattle.pix_scale.specs.declared.filter.Filter.{Filter}
use Rattle.pix_scale.specs.declared.filter.Filter.TheVariants.{Nearest, Area, Linear}
use Rattle.pix_scale.specs.declared.filter.Kernel.{Kernel}
use Rattle.pix_scale.specs.declared.filter.Kernel.TheVariants.{Point, Box, Line, Triangle}
use Rattle.pix_scale.proofs.ScaledLaws.{side_of}
use Rattle.pix_scale.proofs.SignedLaws.{total_times}
use Rattle.pix_scale.proofs.Sums.{total_same}
use Rattle.pix_scale.proofs.Tables.{places_of}

total_add : (n : ℕ) (f g : ℕ → ℕ) → total n (λ k. f k + g k) ≡ total n f + total n g
total_add zero f g = refl
total_add (suc n) f g = omega (arith, total_add n f g)

total_none : (n : ℕ) → total n (λ k. 0) ≡ 0
total_none zero = refl
total_none (suc n) = omega (arith, total_none n)

-- the sum of rows is that of columns
total_turned : (n m : ℕ) (f : ℕ → ℕ → ℕ) → total n (λ u. total m (f u)) ≡ total m (λ v. total n (λ u. f u v))
total_turned zero m f = sym (total_none m)
total_turned (suc n) m f =
    let a = total_turned n m f in
    let b = total_add m (λ v. total n (λ u. f u v)) (f n) in
    omega (arith, a, b)

-- a common factor in front of all terms
times_total : (n c : ℕ) (f : ℕ → ℕ) → c * total n f ≡ total n (λ k. c * f k)
times_total zero c f = omega arith
times_total (suc n) c f = omega (arith, times_total n c f)

sum_turned : (across down : Axis) (f : ℕ → ℕ → ℕ) (x y : ℕ)
    → total across.places (λ u. across.weight x u * total down.places (λ v. down.weight y v * f u v))
    ≡ total down.places (λ v. down.weight y v * total across.places (λ u. across.weight x u * f u v))
sum_turned across down f x y =
    total_same across.places (λ u. across.weight x u * total down.places (λ v. down.weight y v * f u v))
    (λ u. total down.places (λ v. across.weight x u * (down.weight y v * f u v)))
    (λ u l. times_total down.places (across.weight x u) (λ v. down.weight y v * f u v))
    ∙ total_turned across.places down.places (λ u v. across.weight x u * (down.weight y v * f u v))
    ∙ total_same down.places (λ v. total across.places (λ u. across.weight x u * (down.weight y v * f u v)))
    (λ v. down.weight y v * total across.places (λ u. across.weight x u * f u v))
    (λ v l.
    total_same across.places (λ u. across.weight x u * (down.weight y v * f u v)) (λ u. down.weight y v * (across.weight x u * f u v)) (λ u k. omega arith)
    ∙ sym (times_total across.places (down.weight y v) (λ u. across.weight x u * f u v)))

pub scaled_turned : (max : ℕ) (across down : Axis) (f : ℕ → ℕ → ℕ) (x y : ℕ)
    → scaled max across down f x y ≡ scaled max down across (λ v u. f u v) y x
scaled_turned max across down f x y =
    let e : across.whole * down.whole ≡ down.whole * across.whole = omega arith in
    ap (λ s. nearest max (pos s) (pos (across.whole * down.whole))) (sum_turned across down f x y)
    ∙ ap (λ w. nearest max (pos (total down.places (λ v. down.weight y v * total across.places (λ u. across.weight x u * f u v)))) (pos w)) e

-- the first term stands in front
total_first : (n : ℕ) (f : ℕ → ℕ) → total (suc n) f ≡ f 0 + total n (λ k. f (suc k))
total_first zero f = omega arith
total_first (suc n) f = omega (arith, total_first n f)

-- the same sum from the last term on
total_back : (n : ℕ) (f : ℕ → ℕ) → total n f ≡ total n (λ k. f (n - 1 - k))
total_back zero f = refl
total_back (suc n) f =
    let a = total_first n f in
    let b = total_back n (λ k. f (suc k)) in
    let c : total n (λ k. f (suc (n - 1 - k))) ≡ total n (λ k. f (suc n - 1 - k)) =
    total_same n (λ k. f (suc (n - 1 - k))) (λ k. f (suc n - 1 - k)) (λ k l. ap f (omega arith)) in
    let d : f (suc n - 1 - n) ≡ f 0 = ap f (omega arith) in
    omega (arith, a, b, c, d)

-- The places of a side count for place z of the new side what they count, from the last on, for
-- place x.
record Mirrored (axis : Axis) (x z : ℕ) : Type 0 where
  same : (j : ℕ) → j < axis.places → axis.weight z (axis.places - 1 - j) ≡ axis.weight x j

scaled_mirrored : (max : ℕ) (across down : Axis) (f : ℕ → ℕ → ℕ) (x y z : ℕ) → Mirrored across x z
    → scaled max across down f z y ≡ scaled max across down (λ u v. f (across.places - 1 - u) v) x y
scaled_mirrored max across down f x y z mirror =
    let p : ℕ = across.places in
    let term : ℕ → ℕ = λ u. across.weight z u * total down.places (λ v. down.weight y v * f u v) in
    let back : ℕ → ℕ = λ u. across.weight x u * total down.places (λ v. down.weight y v * f (p - 1 - u) v) in
    let same : total p (λ u. term (p - 1 - u)) ≡ total p back =
    total_same p (λ u. term (p - 1 - u)) back (λ u l. ap (λ w. w * total down.places (λ v. down.weight y v * f (p - 1 - u) v)) (mirror.same u l)) in
    ap (λ s. nearest max (pos s) (pos (across.whole * down.whole))) (total_back p term ∙ same)

-- where a place and its mirror begin and end
record Ends (places n m x z j : ℕ) : Type 0 where
  new : z * n + x * n + n ≡ places * m
  old : (places - 1 - j) * m + j * m + m ≡ places * m

ends : (kernel : Kernel) (places size n m x z j : ℕ) → IsSide kernel places size n m → x + z + 1 ≡ size → j < places → Ends places n m x z j
ends kernel places size n m x z j side e lt =
    let k : ℕ = places - 1 - j in
    let a : (x + z + 1) * n ≡ size * n = ap (λ s. s * n) e in
    let b : (k + j + 1) * m ≡ places * m = ap (λ s. s * m) (omega arith) in
    record { new = omega (arith, a, side.same); old = omega (arith, b) }

box_mirrored : (places size n m x z : ℕ) → IsSide Box places size n m → x + z + 1 ≡ size → Mirrored (axis_of Box places n m) x z
box_mirrored places size n m x z side e = record {
  same = λ j lt.
      let k : ℕ = places - 1 - j in
      let t = ends Box places size n m x z j side e lt in
      let a : (j + 1) * m ≡ j * m + m = omega arith in
      let b : (k + 1) * m ≡ k * m + m = omega arith in
      let new = t.new in
      let old : k * m + j * m + m ≡ places * m = t.old in
      let r : overlap n m z k ≡ overlap n m x j = omega (arith, a, b, new, old) in r;
}

twice_less : (p m : ℕ) → 0 < p → (2 * p - 1) * m + m ≡ 2 * (p * m)
twice_less zero m some = absurd (omega arith)
twice_less (suc r) m some = let e : 2 * suc r - 1 ≡ 2 * r + 1 = omega arith in rw e (omega arith)

line_mirrored : (places size n m x z : ℕ) → IsSide Line places size n m → x + z + 1 ≡ size → Mirrored (axis_of Line places n m) x z
line_mirrored places size n m x z side e = record {
  same = λ j lt.
      let k : ℕ = places - 1 - j in
      let t = ends Line places size n m x z j side e lt in
      let a : (2 * j + 1) * m ≡ 2 * (j * m) + m = omega arith in
      let b : (2 * k + 1) * m ≡ 2 * (k * m) + m = omega arith in
      let c : (2 * x + 1) * n ≡ 2 * (x * n) + n = omega arith in
      let d : (2 * z + 1) * n ≡ 2 * (z * n) + n = omega arith in
      let one : 1 * m ≤ places * m = mul-le-mul_right m (let w : 1 ≤ places = omega arith in w) in
      let last : (2 * places - 1) * m + m ≡ 2 * (places * m) = twice_less places m (omega arith) in
      let new = t.new in
      let old : k * m + j * m + m ≡ places * m = t.old in
      let hx : held places n m x + held places n m z ≡ 2 * (places * m) = omega (arith, c, d, one, last, new) in
      let r : 2 * m - abs_diff ((2 * k + 1) * m) (held places n m z) ≡ 2 * m - abs_diff ((2 * j + 1) * m) (held places n m x) = omega (arith, a, b, old, hx) in r;
}

-- parts of a side that are n long add up to their union
total_parts : (k n t : ℕ) → total k (λ i. min n (t - i * n)) ≡ min (k * n) t
total_parts zero n t = omega arith
total_parts (suc k) n t =
    let e : suc k * n ≡ k * n + n = omega arith in
    omega (arith, total_parts k n t, e)

total_less : (n : ℕ) (f g : ℕ → ℕ) → ((k : ℕ) → g k ≤ f k) → total n (λ k. f k - g k) + total n g ≡ total n f
total_less zero f g h = refl
total_less (suc n) f g h = omega (arith, total_less n f g h, h n)

box_columns : (places size n m j : ℕ) → IsSide Box places size n m → j < places → total size (λ i. overlap n m i j) ≡ m
box_columns places size n m j side lt =
    let f : ℕ → ℕ = λ i. min n ((j + 1) * m - i * n) in
    let g : ℕ → ℕ = λ i. min n (j * m - i * n) in
    let e : (j + 1) * m ≡ j * m + m = omega arith in
    let last : (j + 1) * m ≤ places * m = mul-le-mul_right m (omega arith) in
    let less = total_less size f g (λ i. omega (arith, e)) in
    let a = total_parts size n ((j + 1) * m) in
    let b = total_parts size n (j * m) in
    omega (arith, e, last, less, a, b, side.same)

-- What each place counts for all new ones together, by areas, is the same.
pub area_columns : (n m j : ℕ) → 0 < n → 0 < m → n ≤ 65535 → j < n → total m (λ i. (axis Area n m).weight i j) ≡ lowest m n
area_columns n m j p q few lt = box_columns n m (lowest n m) (lowest m n) j (side_of Area n m p q few) lt

line_is : (n m : ℕ) → n ≤ m → kernel_of Linear n m ≡ Line
line_is n m le = ap (λ (b : Bool). if b then Line else Triangle) (le-leb n m le)

mirror_of : (filter : Filter) (n m x z : ℕ) → 0 < n → n ≤ 65535 → filter ≢ Nearest → (filter ≡ Linear → n ≤ m) → x + z + 1 ≡ m
    → Mirrored (axis filter n m) x z
mirror_of Nearest n m x z p few other long e = absurd (other refl)
mirror_of Area n m x z p few other long e = box_mirrored n m (lowest n m) (lowest m n) x z (side_of Area n m p (omega arith) few) e
mirror_of Linear n m x z p few other long e =
    let is = line_is n m (long refl) in
    let side = subst (λ k. IsSide k n m (lowest n m) (lowest m n)) is (side_of Linear n m p (omega arith) few) in
    subst (λ k. Mirrored (axis_of k n (lowest n m) (lowest m n)) x z) (sym is) (line_mirrored n m (lowest n m) (lowest m n) x z side e)

pub mirrored : (max : ℕ) (filter : Filter) (n m : ℕ) (down : Axis) (f : ℕ → ℕ → ℕ) (x y z : ℕ) → 0 < n → n ≤ 65535
    → filter ≢ Nearest → (filter ≡ Linear → n ≤ m) → x + z + 1 ≡ m
    → scaled max (axis filter n m) down f z y ≡ scaled max (axis filter n m) down (λ u v. f (n - 1 - u) v) x y
mirrored max filter n m down f x y z p few other long e =
    scaled_mirrored max (axis filter n m) down f x y z (mirror_of filter n m x z p few other long e)
    ∙ ap (λ k. scaled max (axis filter n m) down (λ u v. f (k - 1 - u) v) x y) (places_of (kernel_of filter n m) n (lowest n m) (lowest m n))

-- The same for sums of weights that may be negative.
signed_add : (n : ℕ) (f g : ℕ → ℤ) → total_of n (λ k. f k +ℤ g k) ≡ total_of n f +ℤ total_of n g
signed_add zero f g = refl
signed_add (suc n) f g = omega (arith, ints, signed_add n f g)

signed_none : (n : ℕ) → total_of n (λ k. pos 0) ≡ pos 0
signed_none zero = refl
signed_none (suc n) = omega (arith, ints, signed_none n)

signed_same : (n : ℕ) (f g : ℕ → ℤ) → ((k : ℕ) → f k ≡ g k) → total_of n f ≡ total_of n g
signed_same zero f g h = refl
signed_same (suc n) f g h = omega (arith, ints, h n, signed_same n f g h)

total_of_turned : (n m : ℕ) (f : ℕ → ℕ → ℤ) → total_of n (λ u. total_of m (f u)) ≡ total_of m (λ v. total_of n (λ u. f u v))
total_of_turned zero m f = sym (signed_none m)
total_of_turned (suc n) m f =
    let a = total_of_turned n m f in
    let b = signed_add m (λ v. total_of n (λ u. f u v)) (f n) in
    omega (arith, ints, a, b)

signed_times : (n : ℕ) (c : ℤ) (f : ℕ → ℤ) → c *ℤ total_of n f ≡ total_of n (λ k. c *ℤ f k)
signed_times n c f = *ℤ_comm c (total_of n f) ∙ sym (total_times n f c) ∙ signed_same n (λ k. f k *ℤ c) (λ k. c *ℤ f k) (λ k. *ℤ_comm (f k) c)

swap : (a b c : ℤ) → a *ℤ (b *ℤ c) ≡ b *ℤ (a *ℤ c)
swap a b c =
    let p : ℤ = b *ℤ c in
    let q : ℤ = a *ℤ c in
    let e : up p + (up b * down c + down b * up c) ≡ down p + (up b * up c + down b * down c) = omega (arith, ints) in
    let f : up q + (up a * down c + down a * up c) ≡ down q + (up a * up c + down a * down c) = omega (arith, ints) in
    omega (arith, ints, ap (λ k. up a * k) e, ap (λ k. down a * k) e, ap (λ k. up b * k) f, ap (λ k. down b * k) f)

pub sum_by_turned : (across down : Taps) (get : ℕ → ℕ → ℕ) → sum_by across down get ≡ sum_by down across (λ v u. get u v)
sum_by_turned across down get =
    let a : ℕ → ℤ = across.weight in
    let d : ℕ → ℤ = down.weight in
    let p : ℕ → ℕ → ℤ = λ u v. pos (get (across.first + u) (down.first + v)) in
    signed_same across.count (λ u. a u *ℤ total_of down.count (λ v. d v *ℤ p u v)) (λ u. total_of down.count (λ v. a u *ℤ (d v *ℤ p u v)))
    (λ u. signed_times down.count (a u) (λ v. d v *ℤ p u v))
    ∙ total_of_turned across.count down.count (λ u v. a u *ℤ (d v *ℤ p u v))
    ∙ signed_same down.count (λ v. total_of across.count (λ u. a u *ℤ (d v *ℤ p u v))) (λ v. d v *ℤ total_of across.count (λ u. a u *ℤ p u v)) (λ v.
    signed_same across.count (λ u. a u *ℤ (d v *ℤ p u v)) (λ u. d v *ℤ (a u *ℤ p u v)) (λ u. swap (a u) (d v) (p u v))
    ∙ sym (signed_times across.count (d v) (λ u. a u *ℤ p u v)))
