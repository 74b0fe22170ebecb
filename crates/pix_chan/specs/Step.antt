-- Step and lerp: part of the way from one channel to another, in whole units.
use Rattle.std.specs.Prelude.{◌≡◌, ℕ, ℤ, zero, suc, pos, negsuc, neg_ℤ, ◌+ℤ◌, ◌-ℤ◌, ◌*ℤ◌, ◌<ℤ◌, ◌≤ℤ◌, ◌/◌, ◌%◌, ◌≤◌, ◌⊎◌}

-- how many units -(whole * max + rest + 1) / max is below 0: whole + 1, but whole where that isn't
-- 0 and the rest is
abbrev pub units_below : ℕ → ℕ → ℕ
units_below zero rest = 1
units_below (suc whole) zero = suc whole
units_below (suc whole) (suc rest) = suc (suc whole)

-- c / max rounded down, but -(k * max + 1) / max is -k where k isn't 0
unfoldable pub step : ℕ → ℤ → ℤ
step max (pos c) = pos (c / max)
step max (negsuc c) = neg_ℤ (pos (units_below (c / max) (c % max)))

-- what is t / max of the way from a to b
unfoldable pub channel_lerp : ℕ → ℕ → ℕ → ℕ → ℤ
channel_lerp max a b t = pos a +ℤ step max (pos t *ℤ (pos b -ℤ pos a))

-- z is an end or lies between them
abbrev pub IsBetween : ℤ → ℤ → ℤ → Type 0
IsBetween a b z = ((a ≤ℤ z) × (z ≤ℤ b)) ⊎ ((b ≤ℤ z) × (z ≤ℤ a))

-- A step of c is less than one unit from c / max. The step of t / max of a way lies on the way.
pub record IsStep (max : ℕ) (step : ℤ → ℤ) : Type 0 where
  pub above : (c : ℤ) → (pos max *ℤ step c) <ℤ (c +ℤ pos max)
  pub below : (c : ℤ) → c <ℤ (pos max *ℤ step c +ℤ pos max)
  pub between : (t : ℕ) (way : ℤ) → t ≤ max → IsBetween (pos 0) way (step (pos t *ℤ way))

-- A lerp lies between its ends, is the first end at 0 and the second at the maximum, and is less
-- than one unit from the exact one.
pub record IsLerp (max : ℕ) (lerp : ℕ → ℕ → ℕ → ℤ) : Type 0 where
  pub between : (a b t : ℕ) → t ≤ max → IsBetween (pos a) (pos b) (lerp a b t)
  pub at_zero : (a b : ℕ) → lerp a b 0 ≡ pos a
  pub at_max : (a b : ℕ) → lerp a b max ≡ pos b
  pub above : (a b t : ℕ) → (pos max *ℤ lerp a b t) <ℤ (pos max *ℤ pos a +ℤ pos t *ℤ (pos b -ℤ pos a) +ℤ pos max)
  pub below : (a b t : ℕ) → (pos max *ℤ pos a +ℤ pos t *ℤ (pos b -ℤ pos a)) <ℤ (pos max *ℤ lerp a b t +ℤ pos max)
