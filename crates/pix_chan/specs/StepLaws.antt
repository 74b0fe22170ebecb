-- The laws of step and lerp, for every maximum above 1. No public clause cites this file.
use Rattle.std.specs.Prelude.{◌≡◌, ℕ, ℤ, zero, suc, pos, negsuc, neg_ℤ, ◌+ℤ◌, ◌-ℤ◌, ◌*ℤ◌, ◌<ℤ◌, ◌≤ℤ◌, ◌+◌, ◌*◌, ◌/◌, ◌%◌, ◌<◌, ◌≤◌, refl}
use Rattle.std.proofs.Common.{arith, ap, subst, sym, ◌∙◌, inl, inr}
use Rattle.std.proofs.Math.Nat.{mul-le-mul_left, mul-le-mul_right, lt_of_mul-lt-mul_left, div-add-mod', div-mul-le_self}
use Rattle.std.proofs.lemmas.Nat.{div-mul-add, div_below}
use Rattle.std.proofs.lemmas.Int.{ints}
use Rattle.std.proofs.Math.IntN.{zero-*ℤ}
use borrow.Author.Differences.{up, down}
use Rattle.pix_chan.specs.Step.{units_below, step, channel_lerp, IsBetween, IsStep, IsLerp}

-- f units below 0 are less than one unit from -(n + 1) / m, and no lower than a whole number of
-- units that is no higher
record Below (m n f : ℕ) : Type 0 where
  pub above : m * f < n + 1 + m
  pub below : n + 1 < m * f + m
  pub within : (d : ℕ) → n + 1 ≤ m * d → f ≤ d
  pub some : 0 < f

below_by : (m n k r : ℕ) → 1 < m → n ≡ k * m + r → r < m → Below m n (units_below k r)
below_by m n zero r hm e hr = record {
  above = omega arith;
  below = omega arith;
  within = λ d h. let z : m * 0 < m * d = omega arith in let l : 0 < d = lt_of_mul-lt-mul_left m z in omega arith;
  some = omega arith;
}
below_by m n (suc k) zero hm e hr = record {
  above = omega arith;
  below = omega arith;
  within = λ d h. let z : m * (k + 1) < m * d = omega arith in let l : k + 1 < d = lt_of_mul-lt-mul_left m z in omega arith;
  some = omega arith;
}
below_by m n (suc k) (suc r) hm e hr = record {
  above = omega arith;
  below = omega arith;
  within = λ d h. let z : m * (k + 1) < m * d = omega arith in let l : k + 1 < d = lt_of_mul-lt-mul_left m z in omega arith;
  some = omega arith;
}

below_is : (m n : ℕ) → 1 < m → Below m n (units_below (n / m) (n % m))
below_is m n hm = below_by m n (n / m) (n % m) hm (omega (arith, div-add-mod' n m)) (omega arith)

-- a negative has its number below 0
negative : (p : ℕ) → up (neg_ℤ (pos p)) + p ≡ down (neg_ℤ (pos p))
negative zero = refl
negative (suc p) = omega arith

times_negative : (m f : ℕ) → up (pos m *ℤ neg_ℤ (pos f)) + m * f ≡ down (pos m *ℤ neg_ℤ (pos f))
times_negative m zero = omega arith
times_negative m (suc f) = negative (m * suc f)

-- z is -p, and c is -(n + 1)
down_above : (z c : ℤ) (m n p : ℕ) → up z + p ≡ down z → up c + suc n ≡ down c → n + 1 < p + m → z <ℤ (c +ℤ pos m)
down_above z c m n p e d h = omega (arith, ints)

down_below : (z c : ℤ) (m n p : ℕ) → up z + p ≡ down z → up c + suc n ≡ down c → p < n + 1 + m → c <ℤ (z +ℤ pos m)
down_below z c m n p e d h = omega (arith, ints)

step_above : (m : ℕ) → 1 < m → (c : ℤ) → (pos m *ℤ step m c) <ℤ (c +ℤ pos m)
unfolding step
step_above m hm (pos n) = omega (arith, ints, div-mul-le_self n m)
step_above m hm (negsuc n) = let b : Below m n (units_below (n / m) (n % m)) = below_is m n hm in
    down_above (pos m *ℤ neg_ℤ (pos (units_below (n / m) (n % m)))) (negsuc n) m n (m * units_below (n / m) (n % m)) (times_negative m _) (negative (suc n)) b.below

step_below : (m : ℕ) → 1 < m → (c : ℤ) → c <ℤ (pos m *ℤ step m c +ℤ pos m)
unfolding step
step_below m hm (pos n) = omega (arith, ints, div-add-mod' n m)
step_below m hm (negsuc n) = let b : Below m n (units_below (n / m) (n % m)) = below_is m n hm in
    down_below (pos m *ℤ neg_ℤ (pos (units_below (n / m) (n % m)))) (negsuc n) m n (m * units_below (n / m) (n % m)) (times_negative m _) (negative (suc n)) b.above

-- t / m of the way up to d, and down to -d
step_up : (m t d : ℕ) → 1 < m → t ≤ m → t * d / m ≤ d
step_up m t d hm h =
    let k : t * d ≤ m * d = mul-le-mul_right d h in
    let l : t * d / m < d + 1 = div_below (t * d) m (d + 1) (omega arith) (omega arith) in
    omega arith

step_down : (m t d : ℕ) → 1 < m → t ≤ m → (n : ℕ) → n + 1 ≡ t * d → units_below (n / m) (n % m) ≤ d
step_down m t d hm h n e =
    let k : t * d ≤ m * d = mul-le-mul_right d h in
    let b : Below m n (units_below (n / m) (n % m)) = below_is m n hm in
    b.within d (omega arith)

-- the step of a product by a negative number, by the product
step_of_fall : (m t d : ℕ) → 1 < m → t ≤ m → (p : ℕ) → p ≡ t * (d + 1) → IsBetween (pos 0) (negsuc d) (step m (neg_ℤ (pos p)))
unfolding step
step_of_fall m t d hm h zero e = inr (omega (arith, ints, div_below 0 m 1 (omega arith) (omega arith)), omega (arith, ints, div_below 0 m 1 (omega arith) (omega arith)))
step_of_fall m t d hm h (suc n) e =
    let l : units_below (n / m) (n % m) ≤ d + 1 = step_down m t (d + 1) hm h n (omega arith) in
    inr (omega (arith, ints), omega (arith, ints))

step_between : (m : ℕ) → 1 < m → (t : ℕ) (way : ℤ) → t ≤ m → IsBetween (pos 0) way (step m (pos t *ℤ way))
unfolding step
step_between m hm t (pos d) h = inl (omega (arith, ints), omega (arith, ints, step_up m t d hm h))
step_between m hm t (negsuc d) h = step_of_fall m t d hm h (t * suc d) (omega arith)

-- The step of every maximum above 1 keeps its laws.
pub step_laws : (m : ℕ) → 1 < m → IsStep m (step m)
step_laws m hm = record { above = step_above m hm; below = step_below m hm; between = step_between m hm }

-- the step of all of a way is the way
step_whole_up : (m d : ℕ) → 1 < m → m * d / m ≡ d
step_whole_up m d hm = ap (λ z. z / m) (let e : m * d ≡ d * m + 0 = omega arith in e) ∙ div-mul-add d m 0 (omega arith)

step_whole_down : (m d : ℕ) → 1 < m → (p : ℕ) → p ≡ m * (d + 1) → step m (neg_ℤ (pos p)) ≡ negsuc d
unfolding step
step_whole_down m d hm zero e = absurd (let k : m * 1 ≤ m * (d + 1) = mul-le-mul_left m (let z : 1 ≤ d + 1 = omega arith in z) in omega arith)
step_whole_down m d hm (suc n) e =
    let b : Below m n (units_below (n / m) (n % m)) = below_is m n hm in
    let lo : units_below (n / m) (n % m) ≤ d + 1 = b.within (d + 1) (omega arith) in
    let z : m * (d + 1) < m * (units_below (n / m) (n % m) + 1) = omega (arith, b.below) in
    let hi : d + 1 < units_below (n / m) (n % m) + 1 = lt_of_mul-lt-mul_left m z in
    let u : units_below (n / m) (n % m) ≡ suc d = omega arith in
    ap (λ v. neg_ℤ (pos v)) u

step_whole : (m : ℕ) → 1 < m → (way : ℤ) → step m (pos m *ℤ way) ≡ way
unfolding step
step_whole m hm (pos d) = ap (λ v. pos v) (step_whole_up m d hm)
step_whole m hm (negsuc d) = step_whole_down m d hm (m * suc d) (omega arith)

step_none : (m : ℕ) → 1 < m → (way : ℤ) → step m (pos 0 *ℤ way) ≡ pos 0
unfolding step
step_none m hm way = subst (λ z. step m z ≡ pos 0) (sym (zero-*ℤ way)) (ap (λ n. pos n) (omega (arith, div_below 0 m 1 (omega arith) (omega arith))))

-- ends, moved by a
moved_between : (a b s : ℤ) → IsBetween (pos 0) (b -ℤ a) s → IsBetween a b (a +ℤ s)
moved_between a b s (inl h) = let lo : pos 0 ≤ℤ s = h.0 in let hi : s ≤ℤ (b -ℤ a) = h.1 in inl (omega (arith, ints), omega (arith, ints))
moved_between a b s (inr h) = let lo : (b -ℤ a) ≤ℤ s = h.0 in let hi : s ≤ℤ pos 0 = h.1 in inr (omega (arith, ints), omega (arith, ints))

pub back_at : (a b : ℤ) → a +ℤ (b -ℤ a) ≡ b
back_at a b = omega (arith, ints)

pub times_sum : (m : ℕ) (a s : ℤ) → pos m *ℤ (a +ℤ s) ≡ pos m *ℤ a +ℤ pos m *ℤ s
times_sum m a s =
    let e : up (a +ℤ s) + (down a + down s) ≡ down (a +ℤ s) + (up a + up s) = omega (arith, ints) in
    let k : m * (up (a +ℤ s) + (down a + down s)) ≡ m * (down (a +ℤ s) + (up a + up s)) = ap (λ n. m * n) e in
    omega (arith, ints)

lerp_above : (m : ℕ) (a c s : ℤ) → (pos m *ℤ s) <ℤ (c +ℤ pos m) → (pos m *ℤ (a +ℤ s)) <ℤ (pos m *ℤ a +ℤ c +ℤ pos m)
lerp_above m a c s h = subst (λ z. z <ℤ (pos m *ℤ a +ℤ c +ℤ pos m)) (sym (times_sum m a s)) (omega (arith, ints))

lerp_below : (m : ℕ) (a c s : ℤ) → c <ℤ (pos m *ℤ s +ℤ pos m) → (pos m *ℤ a +ℤ c) <ℤ (pos m *ℤ (a +ℤ s) +ℤ pos m)
lerp_below m a c s h = subst (λ z. (pos m *ℤ a +ℤ c) <ℤ (z +ℤ pos m)) (sym (times_sum m a s)) (omega (arith, ints))

-- The lerp of every maximum above 1 keeps its laws.
pub lerp_laws : (m : ℕ) → 1 < m → IsLerp m (channel_lerp m)
unfolding channel_lerp
lerp_laws m hm = record {
  between = λ a b t h. moved_between (pos a) (pos b) _ (step_between m hm t (pos b -ℤ pos a) h);
  at_zero = λ a b. subst (λ z. pos a +ℤ z ≡ pos a) (sym (step_none m hm (pos b -ℤ pos a))) (omega (arith, ints));
  at_max = λ a b. subst (λ z. pos a +ℤ z ≡ pos b) (sym (step_whole m hm (pos b -ℤ pos a))) (back_at (pos a) (pos b));
  above = λ a b t. lerp_above m (pos a) (pos t *ℤ (pos b -ℤ pos a)) _ (step_above m hm (pos t *ℤ (pos b -ℤ pos a)));
  below = λ a b t. lerp_below m (pos a) (pos t *ℤ (pos b -ℤ pos a)) _ (step_below m hm (pos t *ℤ (pos b -ℤ pos a)));
}
