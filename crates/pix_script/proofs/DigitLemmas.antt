-- The table of digits.
use Rattle.std.proofs.Common.{◌≡◌, ℕ, ◌<◌, ◌+◌, ◌*◌, [], ◌∷◌, Bool, true, refl, eqb-true, arith}
use Rattle.std.specs.Prelude.{◌/◌, ◌%◌, nat_eq, if◌then◌else◌, slice_index_or}
use Rattle.pix_chan.proofs.Entries.{each_from, each_at}
use Rattle.pix_script.specs.Text.{hex_digit, hex_byte}
use Rattle.pix_script.specs.declared.text.TheConstants.{DIGITS}

-- the digit that stands at an index: the upper one of a byte first
abbrev digit_at : ℕ → ℕ
digit_at k = hex_digit (if nat_eq (k % 2) 0 then k / 2 / 16 else k / 2 % 16)

abbrev is_digit : ℕ → ℕ → Bool
is_digit k letter = nat_eq letter (digit_at k)

digits_all : each_from is_digit 0 DIGITS ≡ true
digits_all = refl

digit : (k : ℕ) → k < 512 → slice_index_or DIGITS k 0 ≡ digit_at k
digit k lt = eqb-true (slice_index_or DIGITS k 0) (digit_at k) (each_at is_digit DIGITS digits_all k lt)

-- the two entries of a byte are its digits
pub digits : (byte at : ℕ) → at ≡ 2 * byte → byte < 256 → slice_index_or DIGITS at 0 ∷ slice_index_or DIGITS (at + 1) 0 ∷ [] ≡ hex_byte byte
digits byte at is lt =
    let even : at % 2 ≡ 0 = omega arith in
    let odd : (at + 1) % 2 ≡ 1 = omega arith in
    let here : at / 2 ≡ byte = omega arith in
    let there : (at + 1) / 2 ≡ byte = omega arith in
    rw (digit at (omega arith), digit (at + 1) (omega arith), even, odd, here, there) refl
