-- Colors with an alpha, and how they are seen.
use Rattle.std.proofs.Common.{◌≡◌, ℕ, zero, suc, ◌+◌, ◌*◌, ◌/◌, ◌<◌, ◌≤◌, List, [], ◌∷◌, length, arith, refl}
use Rattle.std.proofs.Math.Nat.{lt-mul-div-succ, div-mul-le_self}
use Rattle.pix_chan.specs.Product.{channel_product}
use Rattle.pix_chan.specs.ProductLaws.{product_laws}
use Rattle.pix_table.specs.SeenPixels.{AreSeen, over_alpha, seen, straight}

-- the product of a channel and an alpha is at most the alpha
pub product_few : (x a : ℕ) → x ≤ 255 → a ≤ 255 → channel_product 255 x a ≤ a
product_few x a small few =
    let laws = product_laws 255 (omega arith) in
    omega (arith, laws.commutes x a, laws.at_most_operand a x few small)

-- a number over its alpha, and times it again: p is the quotient times the alpha
rounded_back : (n a p : ℕ) → a ≤ 255 → 2 * p ≤ 510 * n + a → 510 * n + a < 2 * p + 2 * a → (2 * p + 255) / 510 ≡ n
rounded_back n a p few low high = omega arith

over_times : (n a : ℕ) → n ≤ a → a ≤ 255 → channel_product 255 (over_alpha n a) a ≡ n
unfolding channel_product
over_times n zero le few = omega arith
over_times n (suc a) le few =
    let q : ℕ = over_alpha n (suc a) in
    let low = div-mul-le_self (510 * n + suc a) (2 * suc a) in
    let some : 0 < 2 * suc a = omega arith in
    let high = lt-mul-div-succ (510 * n + suc a) some in
    rounded_back n (suc a) (q * suc a) few (omega (arith, low)) (omega (arith, high))

-- a color that is seen is how its straight color is seen
pub seen_straight : (s : List ℕ) → AreSeen s → seen (straight s) ≡ s
seen_straight [] h = absurd (let e = h.many in omega (arith, e))
seen_straight (r ∷ []) h = absurd (let e = h.many in omega (arith, e))
seen_straight (r ∷ g ∷ []) h = absurd (let e = h.many in omega (arith, e))
seen_straight (r ∷ g ∷ b ∷ []) h = absurd (let e = h.many in omega (arith, e))
seen_straight (r ∷ g ∷ b ∷ a ∷ []) h = rw (over_times r a h.red h.alpha, over_times g a h.green h.alpha, over_times b a h.blue h.alpha) refl
seen_straight (r ∷ g ∷ b ∷ a ∷ x ∷ xs) h = absurd (let e : length (r ∷ g ∷ b ∷ a ∷ x ∷ xs) ≡ 4 = h.many in omega (arith, e))
