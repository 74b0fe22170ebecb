-- Two numbers at most d apart.
use Rattle.std.proofs.Common.{◌≡◌, ℕ, ◌+◌, ◌-◌, ◌*◌, ◌<◌, ◌≤◌, min, ap, inl, inr, arith, le_of_lt, mul-le-mul_right}
use Rattle.std.proofs.lemmas.Bool.{cases_lt}
use native.Mathlib.Nat.{sub-add_cancel, le_of_mul-le-mul_left, min-eq_left, min-eq_right}
use Rattle.pix_ops.specs.ExactComposite.{Within}

pub within_sum : (d u v e x y : ℕ) → Within d u v → Within e x y → Within (d + e) (u + x) (v + y)
within_sum d u v e x y p q = omega arith

pub within_chain : (d u v e w : ℕ) → Within d u v → Within e v w → Within (d + e) u w
within_chain d u v e w p q = omega arith

pub within_more : (d e u v : ℕ) → d ≤ e → Within d u v → Within e u v
within_more d e u v l p = omega arith

pub within_times : (k d u v : ℕ) → Within d u v → Within (d * k) (u * k) (v * k)
within_times k d u v p = omega (arith, mul-le-mul_right k p.above, mul-le-mul_right k p.below)

-- both stopped at k
pub within_cut : (k d u v : ℕ) → Within d u v → Within d (min k u) (min k v)
within_cut k d u v p = omega arith

-- a common factor
pub within_cancel : (k d u v : ℕ) → 0 < k → Within (k * d) (k * u) (k * v) → Within d u v
within_cancel k d u v h p = record {
  above = le_of_mul-le-mul_left {k = k} (omega arith) h;
  below = le_of_mul-le-mul_left {k = k} (omega arith) h;
}

pub min_times : (k u f : ℕ) → min k u * f ≡ min (k * f) (u * f)
min_times k u f = elim (cases_lt k u) [
  | inl lt ↦ rw (min-eq_left (le_of_lt lt), min-eq_left (mul-le-mul_right f (le_of_lt lt)))
  | inr le ↦ rw (min-eq_right le, min-eq_right (mul-le-mul_right f le))
]

-- both stopped at k, then taken `fine` times
pub within_cut_times : (k d u v fine : ℕ) → Within d (u * fine) (v * fine) → Within d (min k u * fine) (min k v * fine)
within_cut_times k d u v fine p = rw (min_times k u fine, min_times k v fine) (within_cut (k * fine) d (u * fine) (v * fine) p)

-- what b leaves of a, and b, are a
pub rest_times : (a b f : ℕ) → b ≤ a → (a - b) * f + b * f ≡ a * f
rest_times a b f l = omega (arith, ap (λ (x : ℕ). x * f) (sub-add_cancel l))
