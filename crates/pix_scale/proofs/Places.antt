-- Places of a side.
use Rattle.std.specs.Prelude.{ℕ, ◌+◌, ◌-◌, ◌*◌, ◌/◌, min, nat_eq, if◌then◌else◌}
use Rattle.pix_scale.specs.Axis.{total, Axis}

-- 1 for a place itself, and 0 for any other
abbrev pub only : ℕ → ℕ → ℕ
only j k = if nat_eq j k then 1 else 0

-- how much of place i lies before place j
abbrev pub before : ℕ → ℕ → ℕ → ℕ → ℕ
before n m i j = min n (j * m - i * n)

-- the place in which the middle of place i lies, of two the later
abbrev pub nearest_place : ℕ → ℕ → ℕ → ℕ
nearest_place n m i = (2 * i + 1) * n / (2 * m)

-- the sum of a column, each row times what it counts for row y
abbrev pub column : Axis → ℕ → (ℕ → ℕ) → ℕ
column down y get = total down.places (λ v. down.weight y v * get v)
