-- The laws of the product of channels, for every maximum, and the shifts that compute it. No public
-- clause cites this file.
use Rattle.std.specs.Prelude.{◌≡◌, ℕ, ◌+◌, ◌*◌, ◌/◌, ◌<◌, ◌≤◌}
use Rattle.std.proofs.Common.{arith, ◌∙◌, ap}
use Rattle.std.proofs.Math.Nat.{mul-le-mul_left, mul-le-mul_right, lt-mul-div-succ, div-mul-le_self, lt_of_mul-lt-mul_left}
use Rattle.std.proofs.lemmas.Nat.{le-div, div-mul-add}
use Rattle.pix_chan.specs.Product.{channel_product, fineness, IsProduct}

product_above : (m x y : ℕ) → 2 * (m * channel_product m x y) ≤ 2 * (x * y) + m
unfolding channel_product
product_above m x y = omega (arith, div-mul-le_self (2 * (x * y) + m) (2 * m))

product_below : (m x y : ℕ) → 0 < m → 2 * (x * y) ≤ 2 * (m * channel_product m x y) + m
unfolding channel_product
product_below m x y some = omega (arith, lt-mul-div-succ (2 * (x * y) + m) (let p : 0 < 2 * m = omega arith in p))

product_commutes : (m x y : ℕ) → channel_product m x y ≡ channel_product m y x
unfolding channel_product
product_commutes m x y = ap (λ n. n / (2 * m)) (omega arith)

product_at_most : (m x y : ℕ) → 0 < m → y ≤ m → channel_product m x y ≤ x
unfolding channel_product
product_at_most m x y some fits =
    let k : x * y ≤ x * m = mul-le-mul_left x fits in
    let p : channel_product m x y < x + 1 = lt_of_mul-lt-mul_left (2 * m) (omega (arith, div-mul-le_self (2 * (x * y) + m) (2 * m))) in
    omega arith

product_monotone : (m x y z : ℕ) → 0 < m → x ≤ y → channel_product m x z ≤ channel_product m y z
unfolding channel_product
product_monotone m x y z some le =
    let k : x * z ≤ y * z = mul-le-mul_right z le in
    le-div (channel_product m x z) (2 * (y * z) + m) (2 * m) (omega arith) (omega (arith, div-mul-le_self (2 * (x * z) + m) (2 * m)))

product_identity : (m x : ℕ) → 0 < m → channel_product m x m ≡ x
unfolding channel_product
product_identity m x some =
    ap (λ n. n / (2 * m)) (let e : 2 * (x * m) + m ≡ x * (2 * m) + m = omega arith in e) ∙ div-mul-add x (2 * m) m (omega arith)

-- The product of every width keeps the laws, at most half a unit off.
pub product_laws : (m : ℕ) → 0 < m → IsProduct fineness m (channel_product m)
product_laws m some = record {
  positive = some;
  above = λ x y u v. product_above m x y;
  below = λ x y u v. product_below m x y some;
  commutes = product_commutes m;
  at_most_operand = λ x y u v. product_at_most m x y some v;
  monotone = λ x y z le. product_monotone m x y z some le;
  identity = λ x. product_identity m x some;
}
