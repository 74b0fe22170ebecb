-- The nearest whole number to a ratio.
use Rattle.std.specs.Prelude.{ℕ, ℤ, pos, negsuc, ◌+ℤ◌, ◌-ℤ◌, ◌*ℤ◌, ◌<ℤ◌, ◌/◌, ◌<◌, ◌≤◌, min, unsigned_abs}

-- an integer, 0 where it is negative
abbrev pub cut_below : ℤ → ℕ
cut_below (pos n) = n
cut_below (negsuc n) = 0

-- n / d rounded to the nearest whole number, ties up: (2 * n + d) / (2 * d) rounded down, clamped
-- to 0..max
unfoldable pub nearest : ℕ → ℤ → ℤ → ℕ
nearest max n d = min max (cut_below (pos 2 *ℤ n +ℤ d) / cut_below (pos 2 *ℤ d))

-- the distance between n / d and k, times d
abbrev pub distance : ℤ → ℤ → ℕ → ℕ
distance n d k = unsigned_abs (pos k *ℤ d -ℤ n)

-- No number of 0..max is nearer to n / d, and of two that are equally near it is the greater.
pub record IsNearest (max : ℕ) (nearest : ℤ → ℤ → ℕ) : Type 0 where
  pub fits : (n d : ℤ) → nearest n d ≤ max
  pub none_nearer : (n d : ℤ) (k : ℕ) → pos 0 <ℤ d → k ≤ max → distance n d (nearest n d) ≤ distance n d k
  pub ties_up : (n d : ℤ) (k : ℕ) → pos 0 <ℤ d → k ≤ max → nearest n d < k → distance n d (nearest n d) < distance n d k
