-- The product and the quotient of two channels, and their laws.
use Rattle.std.specs.Prelude.{◌≡◌, ℕ, zero, suc, ◌+◌, ◌*◌, ◌/◌, ◌<◌, ◌≤◌, min}

-- the product of two channels: x * y / max, rounded to the nearest; there is no tie, since the
-- maximum is odd
unfoldable pub channel_product : ℕ → ℕ → ℕ → ℕ
channel_product max x y = (2 * (x * y) + max) / (2 * max)

-- how fine the product of two channels is: at most 1/fineness of a unit from the exact one
abbrev pub fineness : ℕ
fineness = 2

-- A product of numbers 0..max is at most 1/fine of a unit from the exact x * y / max, and the
-- maximum is its identity. It commutes, is at most either operand, and is monotone.
pub record IsProduct (fine max : ℕ) (product : ℕ → ℕ → ℕ) : Type 0 where
  pub positive : 0 < max
  pub above : (x y : ℕ) → x ≤ max → y ≤ max → fine * (max * product x y) ≤ fine * (x * y) + max
  pub below : (x y : ℕ) → x ≤ max → y ≤ max → fine * (x * y) ≤ fine * (max * product x y) + max
  pub commutes : (x y : ℕ) → product x y ≡ product y x
  pub at_most_operand : (x y : ℕ) → x ≤ max → y ≤ max → product x y ≤ x
  pub monotone : (x y z : ℕ) → x ≤ y → product x z ≤ product y z
  pub identity : (x : ℕ) → product x max ≡ x

-- the quotient of two channels: (max + 1) * x / y rounded down, at most the maximum, and 0 where
-- the divisor is 0
abbrev pub channel_quotient : ℕ → ℕ → ℕ → ℕ
channel_quotient max x zero = 0
channel_quotient max x (suc y) = min max ((max + 1) * x / suc y)

-- A quotient c / a of a dividend no greater than the divisor, times the divisor, is at most one
-- unit from the dividend.
pub record IsQuotient (max : ℕ) (product quotient : ℕ → ℕ → ℕ) : Type 0 where
  pub above : (c a : ℕ) → c ≤ a → a ≤ max → product (quotient c a) a ≤ c + 1
  pub below : (c a : ℕ) → c ≤ a → a ≤ max → c ≤ product (quotient c a) a + 1
