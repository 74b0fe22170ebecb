-- What the whole numbers of the code are: units below 0, and ways between two numbers.
use Rattle.std.specs.Prelude.{◌≡◌, ℕ, ℤ, zero, suc, pos, negsuc, neg_ℤ, ◌+ℤ◌, ◌-ℤ◌, ◌*ℤ◌, ◌<ℤ◌, ◌+◌, ◌-◌, ◌*◌, ◌/◌, ◌%◌, ◌<◌, ◌≤◌, min, refl}
use Rattle.std.proofs.Common.{arith, ap, subst, sym, ◌∙◌}
use Rattle.std.proofs.Math.Nat.{mul-le-mul_right}
use Rattle.std.proofs.lemmas.Nat.{div-mul-add, mod-mul-add, div_below}
use Rattle.std.proofs.lemmas.Int.{ints}
use Rattle.pix_chan.specs.Nearest.{nearest}
use Rattle.pix_chan.specs.NearestLaws.{nearest_negative}
use Rattle.pix_chan.specs.Step.{units_below, step, channel_lerp}

-- the units of a number, by its digits
of_digits : (m k r : ℕ) → r < m → units_below ((k * m + r) / m) ((k * m + r) % m) ≡ units_below k r
of_digits m k r h = rw (div-mul-add k m r h, mod-mul-add k m r h)

step_of_digits : (m k r : ℕ) → r < m → step m (negsuc (k * m + r)) ≡ neg_ℤ (pos (units_below k r))
unfolding step
step_of_digits m k r h = ap (λ z. neg_ℤ (pos z)) (of_digits m k r h)

-- a fall of n + 1, by the digits of n
step_of_fall : (m n k r : ℕ) → n ≡ suc (k * m + r) → r < m → step m (neg_ℤ (pos n)) ≡ neg_ℤ (pos (units_below k r))
step_of_fall m n k r e h = subst (λ z. step m (neg_ℤ (pos z)) ≡ neg_ℤ (pos (units_below k r))) (sym e) (step_of_digits m k r h)

step_of_none : (m : ℕ) → 1 < m → step m (pos 0) ≡ pos 0
unfolding step
step_of_none m h = ap (λ z. pos z) (omega (arith, div_below 0 m 1 (omega arith) (omega arith)))

-- a fall of q whole units and a rest of r
whole_fall : (m q n : ℕ) → 1 < m → n ≡ q * m → neg_ℤ (pos q) ≡ step m (neg_ℤ (pos n))
whole_fall m zero n h e =
    let z : n ≡ 0 = omega arith in
    subst (λ v. pos 0 ≡ step m (neg_ℤ (pos v))) (sym z) (sym (step_of_none m h))
whole_fall m (suc zero) n h e = sym (step_of_fall m n 0 (m - 1) (omega arith) (omega arith))
whole_fall m (suc (suc q)) n h e =
    let s : step m (neg_ℤ (pos n)) ≡ neg_ℤ (pos (units_below (suc q) (m - 1))) = step_of_fall m n (suc q) (m - 1) (omega arith) (omega arith) in
    let d : m - 1 ≡ suc (m - 2) = omega arith in
    sym (s ∙ ap (λ z. neg_ℤ (pos (units_below (suc q) z))) d)

one_over : (m q n : ℕ) → 1 < m → 0 < q → n ≡ q * m + 1 → neg_ℤ (pos q) ≡ step m (neg_ℤ (pos n))
one_over m zero n h some e = absurd (omega arith)
one_over m (suc q) n h some e = sym (step_of_fall m n (suc q) 0 (omega arith) (omega arith))

more_over : (m q r n : ℕ) → 1 < r → r < m → n ≡ q * m + r → neg_ℤ (pos (q + 1)) ≡ step m (neg_ℤ (pos n))
more_over m zero r n hr h e = sym (step_of_fall m n 0 (r - 1) (omega arith) (omega arith))
more_over m (suc q) r n hr h e =
    let s : step m (neg_ℤ (pos n)) ≡ neg_ℤ (pos (units_below (suc q) (r - 1))) = step_of_fall m n (suc q) (r - 1) (omega arith) (omega arith) in
    let d : r - 1 ≡ suc (r - 2) = omega arith in
    let f : suc q + 1 ≡ suc (suc q) = omega arith in
    subst (λ z. neg_ℤ (pos z) ≡ step m (neg_ℤ (pos n))) (sym f) (sym (s ∙ ap (λ z. neg_ℤ (pos (units_below (suc q) z))) d))

just_one : (m q n : ℕ) → 1 < m → q ≡ 0 → n ≡ q * m + 1 → neg_ℤ (pos (q + 1)) ≡ step m (neg_ℤ (pos n))
just_one m q n h z e =
    let f : q + 1 ≡ 1 = omega arith in
    let s : step m (neg_ℤ (pos n)) ≡ neg_ℤ (pos 1) = step_of_fall m n 0 0 (let k : q * m ≡ 0 * m = ap (λ v. v * m) z in omega arith) (omega arith) in
    subst (λ v. neg_ℤ (pos v) ≡ step m (neg_ℤ (pos n))) (sym f) (sym s)

-- a rest that is dropped, and one that isn't
pub dropped_rest : (m q r n : ℕ) → 1 < m → r ≤ min q 1 → n ≡ q * m + r → neg_ℤ (pos q) ≡ step m (neg_ℤ (pos n))
dropped_rest m q zero n h u e = whole_fall m q n h (omega arith)
dropped_rest m q (suc zero) n h u e = one_over m q n h (omega arith) (omega arith)
dropped_rest m q (suc (suc r)) n h u e = absurd (omega arith)

pub counted_rest : (m q r n : ℕ) → 1 < m → min q 1 < r → r < m → n ≡ q * m + r → neg_ℤ (pos (q + 1)) ≡ step m (neg_ℤ (pos n))
counted_rest m q zero n h u l e = absurd (omega arith)
counted_rest m q (suc zero) n h u l e = just_one m q n h (omega arith) (omega arith)
counted_rest m q (suc (suc r)) n h u l e = more_over m q (suc (suc r)) n (omega arith) l e

-- a way, by natural numbers
way_up : (t a b : ℕ) → a ≤ b → pos t *ℤ (pos b -ℤ pos a) ≡ pos (t * (b - a))
way_up t a b h = ap (λ z. pos t *ℤ z) (let e : pos b -ℤ pos a ≡ pos (b - a) = omega (arith, ints) in e)

times_fall : (t k : ℕ) → pos t *ℤ neg_ℤ (pos k) ≡ neg_ℤ (pos (t * k))
times_fall t zero = omega (arith, ints)
times_fall t (suc k) = refl

fall_is : (a b : ℕ) → b < a → pos b -ℤ pos a ≡ neg_ℤ (pos (a - b))
fall_is a b h = omega (arith, ints)

way_down : (t a b : ℕ) → b < a → pos t *ℤ (pos b -ℤ pos a) ≡ neg_ℤ (pos (t * (a - b)))
way_down t a b h = ap (λ z. pos t *ℤ z) (fall_is a b h) ∙ times_fall t (a - b)

step_up_is : (m n : ℕ) → step m (pos n) ≡ pos (n / m)
unfolding step
step_up_is m n = refl

pub lerp_up : (m a b t : ℕ) → a ≤ b → pos (a + t * (b - a) / m) ≡ channel_lerp m a b t
unfolding channel_lerp
lerp_up m a b t h = sym (ap (λ z. pos a +ℤ step m z) (way_up t a b h) ∙ ap (λ z. pos a +ℤ z) (step_up_is m (t * (b - a))))

back_from : (a u : ℕ) → u ≤ a → pos a +ℤ neg_ℤ (pos u) ≡ pos (a - u)
back_from a u h = omega (arith, ints)

pub lerp_down : (m a b t u : ℕ) → b < a → u ≤ a → neg_ℤ (pos u) ≡ step m (neg_ℤ (pos (t * (a - b)))) → pos (a - u) ≡ channel_lerp m a b t
unfolding channel_lerp
lerp_down m a b t u h l e =
    sym (ap (λ z. pos a +ℤ step m z) (way_down t a b h) ∙ ap (λ z. pos a +ℤ z) (sym e) ∙ back_from a u l)

-- a part of a fall is no greater
pub part_fits : (t m k : ℕ) → t ≤ m → t * k ≤ m * k
part_fits t m k h = mul-le-mul_right k h

-- the nearest number, below 0 and from 0 on
pub nearest_of_negative : (max : ℕ) (n d : ℤ) → n <ℤ pos 0 → pos 0 <ℤ d → 0 ≡ nearest max n d
nearest_of_negative max (pos n) d h p = absurd (omega (arith, ints))
nearest_of_negative max (negsuc n) (negsuc d) h p = absurd (omega (arith, ints))
nearest_of_negative max (negsuc n) (pos d) h p = sym (nearest_negative max n d (omega (arith, ints)))

pub nearest_of_natural : (max a d r : ℕ) → r ≡ min ((2 * a + d) / (2 * d)) max → r ≡ nearest max (pos a) (pos d)
unfolding nearest
nearest_of_natural max a d r e = omega arith
