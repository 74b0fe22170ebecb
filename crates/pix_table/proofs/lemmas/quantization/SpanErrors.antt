-- The error of levels of gray that are shown by their mean.
use Rattle.std.proofs.Common.{◌≡◌, ℕ, zero, suc, ◌+◌, ◌*◌, ◌-◌, ◌<◌, ◌≤◌, arith, ap}
use Rattle.std.proofs.lemmas.Nat.{le-div, div_below}
use Rattle.pix_table.specs.matching.Nearest.{squared_difference}
use Rattle.pix_table.specs.quantization.Totals.{total, middle, error_at, error_between}
use Rattle.pix_table.proofs.lemmas.quantization.LeastMeans.{least_by, mean_is}
use Rattle.pix_table.proofs.lemmas.quantization.Totals.{grows, rises, constant, squares}

-- sums of no level
none_of : (n s q : ℕ) → error_at (n - n) (s - s) (q - q) (middle (n - n) (s - s)) ≡ 0
none_of n s q =
    let a : n - n ≡ 0 = omega arith in
    let b : s - s ≡ 0 = omega arith in
    let c : q - q ≡ 0 = omega arith in
    rw (a, b, c) (omega arith)

twice_low : (k n s : ℕ) → k * n ≤ s → k * (2 * n) ≤ 2 * s + n
twice_low k n s h = omega arith

twice_high : (k n s : ℕ) → 0 < n → s ≤ k * n → 2 * s + n < suc k * (2 * n)
twice_high k n s some h = omega arith

module _ (w x : ℕ → ℕ) where
  abbrev pub count : ℕ → ℕ → ℕ
  count a b = total w x (λ v. 1) b - total w x (λ v. 1) a

  abbrev pub sum : ℕ → ℕ → ℕ
  sum a b = total w x (λ v. v) b - total w x (λ v. v) a

  abbrev pub square_sum : ℕ → ℕ → ℕ
  square_sum a b = total w x (λ v. v * v) b - total w x (λ v. v * v) a

  abbrev pub mean : ℕ → ℕ → ℕ
  mean a b = middle (count a b) (sum a b)

  abbrev pub error_to : ℕ → ℕ → ℕ
  error_to e n = total w x (λ v. squared_difference e v) n

  -- the errors of the levels a up to b, by their sums
  split : (e a b : ℕ) → a ≤ b → error_to e b + 2 * (e * sum a b) ≡ error_to e a + (square_sum a b + count a b * (e * e))
  split e a b h =
      let n : total w x (λ v. 1) b ≡ total w x (λ v. 1) a + count a b = omega (arith, rises w x (λ v. 1) a b h) in
      let s : total w x (λ v. v) b ≡ total w x (λ v. v) a + sum a b = omega (arith, rises w x (λ v. v) a b h) in
      let q : total w x (λ v. v * v) b ≡ total w x (λ v. v * v) a + square_sum a b = omega (arith, rises w x (λ v. v * v) a b h) in
      omega (arith, squares w x e a, squares w x e b, ap (λ k. e * k) s, ap (λ k. k * (e * e)) n, q)

  -- that to the mean is the error, and no other is less
  pub made : (a b : ℕ) → a ≤ b → error_between w x a b + error_to (mean a b) a ≡ error_to (mean a b) b
  made a b h = omega (arith, split (mean a b) a b h, rises w x (λ v. squared_difference (mean a b) v) a b h)

  pub under : (e a b : ℕ) → a ≤ b → 2 * (e * sum a b) ≤ square_sum a b + count a b * (e * e)
  under e a b h = omega (arith, split e a b h, rises w x (λ v. squared_difference e v) a b h)

  pub none : (a : ℕ) → error_between w x a a ≡ 0
  none a = none_of (total w x (λ v. 1) a) (total w x (λ v. v) a) (total w x (λ v. v * v) a)

  module _ (d : ℕ) (some : (i : ℕ) → i < d → 0 < w i) (falls : (i j : ℕ) → i ≤ j → j < d → x j ≤ x i) where
    pub some_between : (a b : ℕ) → a < b → b ≤ d → 0 < count a b
    some_between a zero h in' = absurd (omega arith)
    some_between a (suc b) h in' =
        omega (arith, rises w x (λ v. 1) a b (omega arith), some b in', rises w x (λ v. 1) b (suc b) (omega arith))

    pub least : (e a b : ℕ) → a < b → b ≤ d → error_between w x a b + error_to e a ≤ error_to e b
    least e a b h in' =
        let bounds = mean_is (count a b) (sum a b) (some_between a b h in') in
        omega (
          arith,
          made a b (omega arith),
          split (mean a b) a b (omega arith),
          split e a b (omega arith),
          least_by (count a b) (sum a b) (mean a b) e bounds.0 bounds.1,
        )

    -- the mean is between the last level and the first
    pub last_below : (a b : ℕ) → a ≤ b → b < d → x b ≤ mean a (suc b)
    last_below a b h in' =
        let few = grows w x (λ v. x b) (λ v. v) a (suc b) (omega arith) (λ i p q. falls i b (omega arith) in') in
        let n : total w x (λ v. 1) (suc b) ≡ total w x (λ v. 1) a + count a (suc b) = omega (arith, rises w x (λ v. 1) a (suc b) (omega arith)) in
        let s : total w x (λ v. v) (suc b) ≡ total w x (λ v. v) a + sum a (suc b) = omega (arith, rises w x (λ v. v) a (suc b) (omega arith)) in
        let k = some_between a (suc b) (omega arith) in' in
        let low : x b * count a (suc b) ≤ sum a (suc b) =
        omega (arith, few, constant w x (x b) a, constant w x (x b) (suc b), ap (λ k. x b * k) n, s) in
        le-div (x b) (2 * sum a (suc b) + count a (suc b)) (2 * count a (suc b)) (omega arith) (twice_low (x b) (count a (suc b)) (sum a (suc b)) low)

    pub first_above : (a b : ℕ) → a < b → b ≤ d → mean a b ≤ x a
    first_above a b h in' =
        let few = grows w x (λ v. v) (λ v. x a) a b (omega arith) (λ i p q. falls a i p (omega arith)) in
        let n : total w x (λ v. 1) b ≡ total w x (λ v. 1) a + count a b = omega (arith, rises w x (λ v. 1) a b (omega arith)) in
        let s : total w x (λ v. v) b ≡ total w x (λ v. v) a + sum a b = omega (arith, rises w x (λ v. v) a b (omega arith)) in
        let k = some_between a b h in' in
        let high : sum a b ≤ x a * count a b = omega (arith, few, constant w x (x a) a, constant w x (x a) b, ap (λ k. x a * k) n, s) in
        let below : mean a b < suc (x a) =
        div_below (2 * sum a b + count a b) (2 * count a b) (suc (x a)) (omega arith) (twice_high (x a) (count a b) (sum a b) k high) in
        omega arith
