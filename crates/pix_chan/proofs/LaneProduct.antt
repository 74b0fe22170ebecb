-- The product of one lane.
use Rattle.std.proofs.Common.{◌≡◌, ℕ, ◌+◌, ◌*◌, ◌/◌, ◌%◌, ◌^◌, ◌<◌, ◌≤◌, arith, w8, Fits}
use Rattle.std.proofs.Math.Nat.{mul-le-mul}
use Rattle.pix_chan.specs.Product.{channel_product}

below : (x y : ℕ) → x < 256 → y < 256 → x * y ≤ 65025
below x y a b = let k : x * y ≤ 255 * 255 = mul-le-mul {n₁ = x} {m₁ = y} {n₂ = 255} {m₂ = 255} (omega arith) (omega arith) in omega arith

pub near_fits : (x y : ℕ) → Fits w8 x → Fits w8 y → Fits w8 (channel_product 255 x y)
unfolding channel_product
near_fits x y a b = let p : x * y ≤ 65025 = below x y (omega (arith, a.fits)) (omega (arith, b.fits)) in record { fits = omega arith }

-- p is x times y
rounds : (p : ℕ) → p ≤ 65025 → (p % 2 ^ 16 + 128) % 2 ^ 16 * 257 % 2 ^ 32 / 2 ^ 16 ≡ (2 * p + 255) / 510
rounds p h = omega arith

pub near_lane : (x y : ℕ) → x < 256 → y < 256 → (x * y % 2 ^ 16 + 128) % 2 ^ 16 * 257 % 2 ^ 32 / 2 ^ 16 ≡ channel_product 255 x y
unfolding channel_product
near_lane x y a b = rounds (x * y) (below x y a b)
