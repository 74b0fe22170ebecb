-- Depth: the same fraction of the maximum, in sixteen bits and back.
use Rattle.std.specs.Prelude.{◌≡◌, ℕ, ◌+◌, ◌*◌, ◌/◌, ◌≤◌}

-- a channel in sixteen bits: 257 times one of eight bits, and one of sixteen itself
abbrev pub to_16_bit : ℕ → ℕ → ℕ
to_16_bit max x = 65535 / max * x

-- a channel from sixteen bits: the upper eight of them for a channel of eight bits, and all of them
-- for one of sixteen
abbrev pub from_16_bit : ℕ → ℕ → ℕ
from_16_bit max y = y * (max + 1) / 65536

-- To sixteen bits and back is the identity, and the maximum goes to the maximum both ways.
pub record IsDepth (max : ℕ) : Type 0 where
  pub round_trip : (x : ℕ) → x ≤ max → from_16_bit max (to_16_bit max x) ≡ x
  pub max_to_16_bit : to_16_bit max max ≡ 65535
  pub max_from_16_bit : from_16_bit max 65535 ≡ max
