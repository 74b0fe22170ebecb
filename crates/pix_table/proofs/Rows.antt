-- Places in a row, which are taken in turn.
use Rattle.std.proofs.Common.{◌≡◌, ℕ, ◌+◌, ◌*◌, ◌/◌, ◌%◌, ◌<◌, arith, sym, ap, ◌∙◌, add-mul}
use Rattle.std.proofs.Math.Nat.{mod-add-div'}
use Rattle.std.proofs.lemmas.Nat.{mod-mul-add}

-- what is left over of a number that is so many times the length, and less than it more
left_over : (q len n r : ℕ) → r < len → q * len + r ≡ n → r ≡ n % len
left_over q len n r less e = sym (ap (λ m. m % len) (sym e) ∙ mod-mul-add q len r less)

-- the place of the next one, in the same turn or at the begin of the next one
pub next_in_turn : (k len place : ℕ) → place ≡ k % len → place + 1 < len → place + 1 ≡ (k + 1) % len
next_in_turn k len place e less = left_over (k / len) len (k + 1) (place + 1) less (omega (arith, mod-add-div' k len, e))

pub next_turn : (k len place : ℕ) → place ≡ k % len → place + 1 ≡ len → 0 ≡ (k + 1) % len
next_turn k len place e end =
    left_over (k / len + 1) len (k + 1) 0 (omega arith) (omega (arith, add-mul (k / len) 1 len, mod-add-div' k len, e))
