-- Sums over levels of gray, each of which has a weight.
use Rattle.std.proofs.Common.{◌≡◌, ℕ, zero, suc, ◌+◌, ◌*◌, ◌<◌, ◌≤◌, arith, ap, inl, inr}
use Rattle.std.proofs.lemmas.Bool.{cases_lt}
use Rattle.std.proofs.Math.Nat.{mul-le-mul_left}
use Rattle.pix_table.specs.matching.Nearest.{squared_difference}
use Rattle.pix_table.specs.quantization.Totals.{total}
use Rattle.pix_table.proofs.lemmas.quantization.LeastMeans.{square}

module _ (w x : ℕ → ℕ) where
  -- where one function is at most another on some levels, its sum grows no more over these
  pub grows : (f g : ℕ → ℕ) (a b : ℕ) → a ≤ b → ((i : ℕ) → a ≤ i → i < b → f (x i) ≤ g (x i)) → total w x f b + total w x g a ≤ total w x f a + total w x g b
  grows f g a zero h less = let e : a ≡ 0 = omega arith in rw e (omega arith)
  grows f g a (suc b) h less = elim (cases_lt b a) [
    | inl l ↦ let e : a ≡ suc b = omega arith in rw e (omega arith)
    | inr l ↦
        let one : w b * f (x b) ≤ w b * g (x b) = mul-le-mul_left (w b) (less b l (omega arith)) in
        omega (arith, one, grows f g a b l (λ i p q. less i p (omega arith)))
  ]

  -- a sum of a function that is at most another
  pub at_most : (f g : ℕ → ℕ) (n : ℕ) → ((i : ℕ) → i < n → f (x i) ≤ g (x i)) → total w x f n ≤ total w x g n
  at_most f g n less = omega (arith, grows f g 0 n (omega arith) (λ i p q. less i q))

  -- a sum grows
  pub rises : (f : ℕ → ℕ) (a b : ℕ) → a ≤ b → total w x f a ≤ total w x f b
  rises f a zero h = let e : a ≡ 0 = omega arith in rw e (omega arith)
  rises f a (suc b) h = elim (cases_lt b a) [
    | inl l ↦ let e : a ≡ suc b = omega arith in rw e (omega arith)
    | inr l ↦ omega (arith, rises f a b l)
  ]

  -- the sum of one number
  pub constant : (k n : ℕ) → total w x (λ v. k) n ≡ k * total w x (λ v. 1) n
  constant k zero = omega arith
  constant k (suc n) = omega (arith, constant k n)

  -- the squared differences from a number, by sums
  pub squares : (e n : ℕ) → total w x (λ v. squared_difference e v) n + 2 * (e * total w x (λ v. v) n)
      ≡ total w x (λ v. v * v) n + total w x (λ v. 1) n * (e * e)
  squares e zero = omega arith
  squares e (suc n) = omega (arith, squares e n, square e (x n), ap (λ k. w n * k) (square e (x n)))
