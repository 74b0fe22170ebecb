-- The laws of the quotient of channels, for every width and every product that keeps the product's
-- laws. No public clause cites this file.
use Rattle.std.specs.Prelude.{◌≡◌, ℕ, ◌+◌, ◌*◌, ◌/◌, ◌<◌, ◌≤◌, ◌⊎◌, min}
use Rattle.std.proofs.Common.{zero, suc, arith, subst, inl, inr}
use Rattle.std.proofs.Math.Nat.{mul-le-mul_right, lt_of_mul-lt-mul_left, div-mul-le_self, div-add-mod'}
use Rattle.std.proofs.lemmas.Bool.{cases_lt}
use Rattle.pix_chan.specs.Product.{channel_quotient, IsProduct, IsQuotient}

-- q is the quotient of c by a, p the product of q and a, m the maximum
quotient_above : (m c a q p : ℕ) → 0 < m → c ≤ a → a ≤ m → q * a ≤ (m + 1) * c → m * p < q * a + m → p ≤ c + 1
quotient_above m c a q p hm hc ha lo h =
    let k : m * p < m * (c + 2) = omega arith in
    let l : p < c + 2 = lt_of_mul-lt-mul_left m k in
    omega arith

quotient_below : (m c a q p : ℕ) → 0 < m → c ≤ a → a ≤ m → (m + 1) * c < q * a + a → q * a ≤ m * p + m → c ≤ p + 1
quotient_below m c a q p hm hc ha lo h =
    let k : m * c < m * (p + 2) = omega arith in
    let l : c < p + 2 = lt_of_mul-lt-mul_left m k in
    omega arith

quotient_cut : (m c a p : ℕ) → 0 < m → c ≤ a → m * a ≤ m * p + m → c ≤ p + 1
quotient_cut m c a p hm hc h =
    let k : m * a < m * (p + 2) = omega arith in
    let l : a < p + 2 = lt_of_mul-lt-mul_left m k in
    omega arith

-- for a divisor a + 1, with d the plain quotient
cut_above : (m c a d p : ℕ) → 0 < m → c ≤ a + 1 → a + 1 ≤ m → d * (a + 1) ≤ (m + 1) * c → m * p < min m d * (a + 1) + m → p ≤ c + 1
cut_above m c a d p hm hc ha lo h =
    let k : min m d * (a + 1) ≤ d * (a + 1) = mul-le-mul_right (a + 1) (let z : min m d ≤ d = omega arith in z) in
    quotient_above m c (a + 1) (min m d) p hm hc ha (omega arith) h

cut_below_by : (m c a d p : ℕ) → 0 < m → c ≤ a + 1 → a + 1 ≤ m → (m + 1) * c < d * (a + 1) + (a + 1) → min m d * (a + 1) ≤ m * p + m
    → (m ≤ d) ⊎ (min m d ≡ d) → c ≤ p + 1
cut_below_by m c a d p hm hc ha hi h (inl u) =
    let e : min m d ≡ m = omega arith in
    quotient_cut m c (a + 1) p hm hc (subst (λ z. z * (a + 1) ≤ m * p + m) e h)
cut_below_by m c a d p hm hc ha hi h (inr e) =
    quotient_below m c (a + 1) d p hm hc ha hi (subst (λ z. z * (a + 1) ≤ m * p + m) e h)

-- which of the two the quotient is
cut_or_plain : (m d : ℕ) → (m ≤ d) ⊎ (min m d ≡ d)
cut_or_plain m d = elim (cases_lt d m) [ inl v ↦ inr (omega arith) | inr u ↦ inl u ]

-- bounds of a finer product, in whole units
unit_above : (f m p n : ℕ) → 0 < m → 1 < f → f * (m * p) ≤ f * n + m → m * p < n + m
unit_above f m p n hm hf h =
    let k : 2 * m ≤ f * m = mul-le-mul_right m hf in
    let z : f * (m * p) < f * (n + m) = omega arith in
    lt_of_mul-lt-mul_left f z

unit_below : (f m p n : ℕ) → 1 < f → f * n ≤ f * (m * p) + m → n ≤ m * p + m
unit_below f m p n hf h =
    let k : 1 * m ≤ f * m = mul-le-mul_right m (let z : 1 ≤ f = omega arith in z) in
    let z : f * n < f * (m * p + m + 1) = omega arith in
    let l : n < m * p + m + 1 = lt_of_mul-lt-mul_left f z in
    omega arith

quotient_laws_above : (m f : ℕ) (product : ℕ → ℕ → ℕ) → 1 < f → IsProduct f m product
    → (c a : ℕ) → c ≤ a → a ≤ m → product (channel_quotient m c a) a ≤ c + 1
quotient_laws_above m f product hf g c zero h k =
    let l : product 0 0 ≤ 0 = g.at_most_operand 0 0 (omega arith) (omega arith) in
    omega arith
quotient_laws_above m f product hf g c (suc a) h k =
    let some : 0 < m = g.positive in
    let q : ℕ = min m ((m + 1) * c / suc a) in
    let lo : (m + 1) * c / suc a * suc a ≤ (m + 1) * c = div-mul-le_self ((m + 1) * c) (suc a) in
    let z : m * product q (suc a) < q * suc a + m = unit_above f m _ _ some hf (g.above q (suc a) (omega arith) k) in
    cut_above m c a ((m + 1) * c / suc a) _ some (omega arith) (omega arith) (omega arith) (omega arith)

quotient_laws_below : (m f : ℕ) (product : ℕ → ℕ → ℕ) → 1 < f → IsProduct f m product
    → (c a : ℕ) → c ≤ a → a ≤ m → c ≤ product (channel_quotient m c a) a + 1
quotient_laws_below m f product hf g c zero h k = omega arith
quotient_laws_below m f product hf g c (suc a) h k =
    let some : 0 < m = g.positive in
    let q : ℕ = min m ((m + 1) * c / suc a) in
    let hi : (m + 1) * c < (m + 1) * c / suc a * suc a + suc a = omega (arith, div-add-mod' ((m + 1) * c) (suc a)) in
    let z : q * suc a ≤ m * product q (suc a) + m = unit_below f m _ _ hf (g.below q (suc a) (omega arith) k) in
    cut_below_by m c a ((m + 1) * c / suc a) _ some (omega arith) (omega arith) (omega arith) (omega arith)
    (cut_or_plain m ((m + 1) * c / suc a))

-- The quotient of every width keeps its laws with every product that keeps the product's.
pub quotient_laws : (m f : ℕ) (product : ℕ → ℕ → ℕ) → 1 < f → IsProduct f m product → IsQuotient m product (channel_quotient m)
quotient_laws m f product hf g = record {
  above = quotient_laws_above m f product hf g;
  below = quotient_laws_below m f product hf g;
}
