-- What a cut gains at most, told without a division.
use Rattle.std.proofs.Common.{◌≡◌, ℕ, ◌+◌, ◌-◌, ◌*◌, ◌/◌, ◌<◌, ◌≤◌, arith, inl, inr}
use Rattle.std.proofs.lemmas.Bool.{cases_lt}
use Rattle.std.proofs.lemmas.Nat.{mul-le}
use Rattle.std.proofs.Math.Nat.{div-mul-le_self}

-- two quotients, by the products of each number and the other's divisor
pub quotients_few : (x y n m most whole : ℕ) → x * m + y * n < (most + whole + 1) * (n * m) → x / n + y / m - whole ≤ most
quotients_few x y n m most whole h =
    let q = x / n in
    let r = y / m in
    let one : (x / n * n) * m ≤ x * m = mul-le (x / n * n) m x m (div-mul-le_self x n) (omega arith) in
    let two : (y / m * m) * n ≤ y * n = mul-le (y / m * m) n y n (div-mul-le_self y m) (omega arith) in
    elim (cases_lt (q + r) (most + whole + 1)) [
      | inl b ↦ omega (arith, b)
      | inr b ↦ absurd (omega (arith, h, one, two, mul-le (most + whole + 1) (n * m) (q + r) (n * m) b (omega arith)))
    ]

-- two quotients by one divisor, by the sum of both numbers
pub quotients_most : (x y n most : ℕ) → x + y < (most + 1) * n → x / n + y / n ≤ most
quotients_most x y n most h =
    let q = x / n in
    let r = y / n in
    let sum : (q + r) * n ≡ q * n + r * n = omega arith in
    elim (cases_lt (q + r) (most + 1)) [
      | inl b ↦ omega (arith, b)
      | inr b ↦ absurd (omega (arith, h, sum, div-mul-le_self x n, div-mul-le_self y n, mul-le (most + 1) n (q + r) n b (omega arith)))
    ]

-- two and two quotients, by the products of the sums of each two numbers and the other two's divisor
pub four_quotients_most : (x y z w n m most : ℕ) → (x + y) * m + (z + w) * n < (most + 1) * (n * m) → x / n + y / n + (z / m + w / m) ≤ most
four_quotients_most x y z w n m most h =
    let q = x / n + y / n in
    let r = z / m + w / m in
    let one : q * n ≤ x + y = omega (arith, div-mul-le_self x n, div-mul-le_self y n) in
    let two : r * m ≤ z + w = omega (arith, div-mul-le_self z m, div-mul-le_self w m) in
    let low : (q * n) * m ≤ (x + y) * m = mul-le (q * n) m (x + y) m one (omega arith) in
    let high : (r * m) * n ≤ (z + w) * n = mul-le (r * m) n (z + w) n two (omega arith) in
    elim (cases_lt (q + r) (most + 1)) [
      | inl b ↦ omega (arith, b)
      | inr b ↦ absurd (omega (arith, h, low, high, mul-le (most + 1) (n * m) (q + r) (n * m) b (omega arith)))
    ]

-- the same, where the sums, the divisors and the products are told
pub four_quotients_told : (x y z w n m most s t p q r u : ℕ) → s ≡ x + y → t ≡ z + w → p ≡ n → q ≡ m → r ≡ most + 1 → u ≡ n * m → s * q + t * p < r * u
    → x / n + y / n + (z / m + w / m) ≤ most
four_quotients_told x y z w n m most s t p q r u s_is t_is p_is q_is r_is u_is h =
    four_quotients_most x y z w n m most (rw (s_is, t_is, p_is, q_is, r_is, u_is) at h)
