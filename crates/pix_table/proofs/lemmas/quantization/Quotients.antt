-- Long division bit by bit, and squares over a count.
use Rattle.std.proofs.Common.{◌≡◌, ℕ, ◌+◌, ◌-◌, ◌*◌, ◌/◌, ◌%◌, ◌^◌, ◌<◌, ◌≤◌, arith, sym, ap, ◌∙◌}
use Rattle.std.proofs.lemmas.Nat.{shr-shr, shr_le, mul-le, div-mul-add}
use Rattle.std.proofs.Math.Nat.{le_of_mul-le-mul_right, le-mul_of_pos_right}

-- one more bit of a number is divided: twice the quotient and the rest of the bits above, and the bit, are the bits down to it. Neither is more than the number
pub one_more : (n i whole rest by : ℕ) → i < 128 → 0 < by → whole * by + rest ≡ n / 2 ^ (128 - i)
    → (2 * (whole * by) + (2 * rest + n / 2 ^ (127 - i) % 2) ≡ n / 2 ^ (128 - (i + 1))) × (n / 2 ^ (128 - (i + 1)) ≤ n) × (whole ≤ whole * by)
one_more n i whole rest by more some e =
    let next : 128 - (i + 1) ≡ 127 - i = omega arith in
    let before : (127 - i) + 1 ≡ 128 - i = omega arith in
    let half : n / 2 ^ (127 - i) / 2 ≡ n / 2 ^ (128 - i) = shr-shr n (127 - i) 1 ∙ ap (λ (k : ℕ). n / 2 ^ k) before in
    rw next (omega (arith, half), shr_le n (127 - i), le-mul_of_pos_right whole some)

-- the square of a sum over a count, where q is the sum over the count and r the rest, and p is the square of the rest over the count and t the rest of that
pub square_over : (s c q r p t : ℕ) → q * c + r ≡ s → p * c + t ≡ r * r → (q * (s + r) + p) * c + t ≡ s * s
square_over s c q r p t e f = rw (← e) (omega (arith, f))

-- the whole part is small where the sum is one of bytes
pub square_is_small : (s c q r p t : ℕ) → 0 < c → s ≤ 255 * c → q * c + r ≡ s → p * c + t ≡ r * r → q * (s + r) + p ≤ 65025 * c
square_is_small s c q r p t some few e f =
    let square : (q * (s + r) + p) * c ≤ (65025 * c) * c = omega (arith, square_over s c q r p t e f, mul-le s s (255 * c) (255 * c) few few) in
    le_of_mul-le-mul_right square some

-- three numbers over a count, added: the whole parts v, w and x, and y, the rests over the count
pub three_over : (c a b d v w x y r s t u : ℕ) → v * c + r ≡ a → w * c + s ≡ b → x * c + t ≡ d → y * c + u ≡ r + s + t → u < c → v + w + x + y ≡ (a + b + d) / c
three_over c a b d v w x y r s t u e f g h less =
    let all : (v + w + x + y) * c + u ≡ a + b + d = omega arith in
    sym (div-mul-add (v + w + x + y) c u less) ∙ ap (λ (n : ℕ). n / c) all
