-- One value alone is the nearest to the curve at a channel.
use Rattle.std.proofs.Common.{◌≡◌, ℕ, ◌≤◌, ◌<◌, ◌+◌, ◌*◌, ◌-◌, ◌^◌, Bool, true, false, cond, refl, sym, inl, inr, leb-true, leb-false, arith}
use Rattle.std.proofs.lemmas.Bool.{cases_order}
use Rattle.std.proofs.lemmas.Nat.{mul-le, mul-pow}
use Rattle.std.proofs.Math.Nat.{pow-le-pow_left, one-le-pow, le_refl, le_trans}
use Rattle.pix_chan.specs.SrgbCurve.{is_straight, curve_side, fraction_side, IsNearestDecoded, IsNearestEncoded}

grown_by : (b : Bool) (x x' y y' : ℕ) → x ≤ x' → y ≤ y' → cond b x y ≤ cond b x' y'
grown_by true x x' y y' l r = l
grown_by false x x' y y' l r = r

-- a greater fraction has a greater side
pub grown : (p q a b : ℕ) → a ≤ b → fraction_side p q a ≤ fraction_side p q b
grown p q a b le =
    grown_by (is_straight p q) (1292 * q * a) (1292 * q * b) ((1055 * q) ^ 12 * a ^ 5) ((1055 * q) ^ 12 * b ^ 5)
    (mul-le (1292 * q) a (1292 * q) b (le_refl (1292 * q)) le)
    (mul-le ((1055 * q) ^ 12) (a ^ 5) ((1055 * q) ^ 12) (b ^ 5) (le_refl ((1055 * q) ^ 12)) (pow-le-pow_left le 5))

apart : (top i v w : ℕ) → v < w → IsNearestDecoded top i v → IsNearestDecoded top i w → ⊥
apart top i v w less a b =
    let le : 2 * v + 1 ≤ 2 * w - 1 = omega arith in
    strict (fraction_side i 255 (2 * v + 1)) (curve_side i 255 (2 * top)) (fraction_side i 255 (2 * w - 1)) a.below b.above (grown i 255 (2 * v + 1) (2 * w - 1) le)
  where
    strict : (x y z : ℕ) → y < x → z ≤ y → x ≤ z → ⊥
    strict x y z p q r = omega arith

pub decoded_once : (top i v w : ℕ) → IsNearestDecoded top i v → IsNearestDecoded top i w → v ≡ w
decoded_once top i v w a b = elim (cases_order v w) [ inl e ↦ e | inr o ↦ elim o [ inl less ↦ absurd (apart top i v w less a b) | inr more ↦ absurd (apart top i w v more b a) ] ]

-- The curve rises from a half level a to a half level b.
rising : (i top a b : ℕ) → a ≤ b → (s t : Bool) → is_straight a 510 ≡ s → is_straight b 510 ≡ t
    → cond s (658920 * i) (538050 ^ 12 * i ^ 5) < cond s (100 * a * top) ((1000 * a + 28050) ^ 12 * top ^ 5)
    → cond t (100 * b * top) ((1000 * b + 28050) ^ 12 * top ^ 5) ≤ cond t (658920 * i) (538050 ^ 12 * i ^ 5) → ⊥
rising i top a b le true true es et lt ge =
    let more : a * top ≤ b * top = mul-le a top b top le (le_refl top) in
    omega (arith, more)
rising i top a b le false false es et lt ge =
    let base : 1000 * a + 28050 ≤ 1000 * b + 28050 = omega arith in
    let more = mul-le ((1000 * a + 28050) ^ 12) (top ^ 5) ((1000 * b + 28050) ^ 12) (top ^ 5) (pow-le-pow_left base 12) (le_refl (top ^ 5)) in
    strict (538050 ^ 12 * i ^ 5) ((1000 * a + 28050) ^ 12 * top ^ 5) ((1000 * b + 28050) ^ 12 * top ^ 5) lt more ge
  where
    strict : (x y z : ℕ) → x < y → y ≤ z → z ≤ x → ⊥
    strict x y z p q r = omega arith
rising i top a b le false true es et lt ge =
    let above : 2062950 < 100000 * a = leb-false (100000 * a) 2062950 es in
    let below : 100000 * b ≤ 2062950 = leb-true (100000 * b) 2062950 et in
    omega arith
rising i top a b le true false es et lt ge =
    let below : 100000 * a ≤ 2062950 = leb-true (100000 * a) 2062950 es in
    let above : 2062950 < 100000 * b = leb-false (100000 * b) 2062950 et in
    let most : a * top ≤ 20 * top = mul-le a top 20 top (omega arith) (le_refl top) in
    let few : 329 * i ≤ top = omega (arith, most) in
    let some : 0 < top = omega (arith, most) in
    let powers : (329 * i) ^ 5 ≤ top ^ 5 = pow-le-pow_left few 5 in
    let apart_power : (329 * i) ^ 5 ≡ 329 ^ 5 * i ^ 5 = mul-pow 329 i 5 in
    let base : 49050 ≤ 1000 * b + 28050 = omega arith in
    let least = mul-le (49050 ^ 12) (top ^ 5) ((1000 * b + 28050) ^ 12) (top ^ 5) (pow-le-pow_left base 12) (le_refl (top ^ 5)) in
    let one : 1 ≤ top ^ 5 = one-le-pow 5 top some in
    numbers (i ^ 5) (top ^ 5) (rw (sym apart_power) powers) (le_trans least ge) one
  where
    numbers : (x y : ℕ) → 329 ^ 5 * x ≤ y → 49050 ^ 12 * y ≤ 538050 ^ 12 * x → 1 ≤ y → ⊥
    numbers x y p q r = omega arith

apart_encoded : (top i v w : ℕ) → v < w → IsNearestEncoded top i v → IsNearestEncoded top i w → ⊥
apart_encoded top i v w less a b =
    rising i top (2 * v + 1) (2 * w - 1) (omega arith) (is_straight (2 * v + 1) 510) (is_straight (2 * w - 1) 510) refl refl a.below b.above

pub encoded_once : (top i v w : ℕ) → IsNearestEncoded top i v → IsNearestEncoded top i w → v ≡ w
encoded_once top i v w a b = elim (cases_order v w) [ inl e ↦ e | inr o ↦ elim o [ inl less ↦ absurd (apart_encoded top i v w less a b) | inr more ↦ absurd (apart_encoded top i w v more b a) ] ]
