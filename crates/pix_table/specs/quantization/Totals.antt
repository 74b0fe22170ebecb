-- Levels of gray, each of which has a weight, and the error of some of them that are shown by one. No clause of a
-- public call cites this file.
use Rattle.std.specs.Prelude.{ℕ, zero, suc, ◌+◌, ◌-◌, ◌*◌, ◌/◌, ◌^◌, ◌<◌, ◌≤◌}

-- the sum of what a function makes of each of the first n levels, times its weight
abbrev pub total : (w x f : ℕ → ℕ) → ℕ → ℕ
total w x f zero = 0
total w x f (suc n) = total w x f n + w n * f (x n)

-- the mean of so many numbers of this sum, to the nearest whole number, ties up
abbrev pub middle : (count sum : ℕ) → ℕ
middle count sum = (2 * sum + count) / (2 * count)

-- the sum of their squared differences from a number, where their squares have this sum
abbrev pub error_at : (count sum squares mean : ℕ) → ℕ
error_at count sum squares mean = squares + count * (mean * mean) - 2 * (mean * sum)

-- the sum of the squared errors of the levels a up to b, where all are shown by their mean
abbrev pub error_between : (w x : ℕ → ℕ) → ℕ → ℕ → ℕ
error_between w x a b =
    error_at (total w x (λ v. 1) b - total w x (λ v. 1) a) (total w x (λ v. v) b - total w x (λ v. v) a)
    (total w x (λ v. v * v) b - total w x (λ v. v * v) a)
    (middle (total w x (λ v. 1) b - total w x (λ v. 1) a) (total w x (λ v. v) b - total w x (λ v. v) a))

-- what the arithmetic of an error needs of a count, a sum, a sum of squares and a mean
pub record HasRoom (n s q m : ℕ) : Type 0 where
  pub some : 0 < n
  pub few : n < 2 ^ 64
  pub sum : s ≤ 255 * n
  pub squares : q ≤ 65025 * n
  pub mean : m ≤ 255
  pub times : m * s ≤ 255 * s
  pub square : m * m ≤ 65025
  pub most : n * (m * m) ≤ 65025 * n
  pub under : 2 * (m * s) ≤ q + n * (m * m)
