-- Channels as whole numbers 0..max, each read as the fraction of max; one unit is 1/max.
-- A width is named by its maximum: 255 for eight bits and 65535 for sixteen.
use Rattle.std.specs.Prelude.{ℕ, ◌+◌, ◌-◌, ◌%◌, min}

-- the saturating sum of two channels: at most the maximum
abbrev pub saturating_sum : ℕ → ℕ → ℕ → ℕ
saturating_sum max x y = min max (x + y)

-- the saturating difference of two channels: 0 where y is the greater
abbrev pub saturating_difference : ℕ → ℕ → ℕ
saturating_difference x y = x - y

-- the wrapping sum of two channels: modulo max + 1
abbrev pub wrapping_sum : ℕ → ℕ → ℕ → ℕ
wrapping_sum max x y = (x + y) % (max + 1)

-- the wrapping difference of two channels: modulo max + 1
abbrev pub wrapping_difference : ℕ → ℕ → ℕ → ℕ
wrapping_difference max x y = (x + (max + 1 - y)) % (max + 1)
