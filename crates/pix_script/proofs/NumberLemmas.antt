-- The number that a word spells, as a loop over its digits finds it.
use Rattle.std.proofs.Common.{◌≡◌, ℕ, zero, suc, ◌-◌, ◌<◌, ◌≤◌, true, false, ltb, leb, List, [], ◌∷◌, length, get_or, take, Some, None, refl, ap, ◌∙◌, arith}
use Rattle.std.specs.Prelude.{◌&&◌}
use Rattle.std.specs.Char.{is_ascii_digit, digit_value}
use Rattle.std.specs.Str.{all_ascii_digits}
use Rattle.std.specs.Str.Parse.{digits_value, AllDigits}
use Rattle.std.proofs.lemmas.Bool.{and_left, and_right, lt-ltb, le-leb, lt-leb}
use Rattle.std.proofs.lemmas.List.{take_all}
use Rattle.std.proofs.lemmas.Str.Parse.{IsNumeralModel, numerals_by_value, tells_all_ascii_digits, digits_value-take-le}
use Rattle.std.proofs.lemmas.Grind.{common_steps}
use Rattle.pix_script.specs.Numbers.{number_up_to}

-- the digits of a word, by the value of each
numerals : IsNumeralModel (λ word. all_ascii_digits word ≡ true) (digits_value 10)
numerals = numerals_by_value _ tells_all_ascii_digits

-- a byte that is no digit spoils the word
all_ascii_digits-other : (word : List ℕ) (i : ℕ)
    → i < length word → is_ascii_digit (get_or word i 0) ≡ false → all_ascii_digits word ≡ false
all_ascii_digits-other [] i lt other = absurd (omega arith)
all_ascii_digits-other (byte ∷ bytes) zero lt other =
    and_left (is_ascii_digit byte) (all_ascii_digits bytes) other
all_ascii_digits-other (byte ∷ bytes) (suc i) lt other =
    let rest = all_ascii_digits-other bytes i (omega arith) other in
    and_right (is_ascii_digit byte) (all_ascii_digits bytes) rest

-- the empty word spells no number
pub number-none : (limit : ℕ) → None ≡ number_up_to limit []
unfolding number_up_to
number-none limit = refl

-- nor does a word with a byte that is no digit
pub number-other : (limit : ℕ) (word : List ℕ) (i : ℕ)
    → i < length word → is_ascii_digit (get_or word i 0) ≡ false → None ≡ number_up_to limit word
unfolding number_up_to
number-other limit word i lt other =
    let e = all_ascii_digits-other word i lt other in
    rw (e, and_right (ltb 0 (length word)) false refl) refl

-- nor a word whose first digits pass the limit
pub number-large : (limit : ℕ) (word : List ℕ) (i : ℕ)
    → limit < digits_value 10 (take i word) → None ≡ number_up_to limit word
unfolding number_up_to
number-large limit word i lt =
    let le = digits_value-take-le 10 word i (omega arith) in
    let above : leb (digits_value 10 word) limit ≡ false = lt-leb _ _ (omega arith) in
    rw (above, and_right (ltb 0 (length word) && all_ascii_digits word) false refl) refl

-- and else the word spells the value of its digits
pub number-found : (limit value : ℕ) (word : List ℕ)
    → 0 < length word → AllDigits 10 (take (length word) word)
    → value ≡ digits_value 10 (take (length word) word) → value ≤ limit
    → Some value ≡ number_up_to limit word
unfolding number_up_to
number-found limit value word some digits is le =
    let whole : take (length word) word ≡ word = take_all (length word) word (omega arith) in
    let d : all_ascii_digits word ≡ true = numerals.from word (rw whole at digits) in
    let v : value ≡ digits_value 10 word = is ∙ ap (digits_value 10) whole in
    let n : ltb 0 (length word) ≡ true = lt-ltb _ _ some in
    let m : leb (digits_value 10 word) limit ≡ true = le-leb _ _ (omega arith) in
    rw (n, d, m, v) refl

-- the value of a digit, as the code computes it
pub digit_value-digit : (byte : ℕ) → is_ascii_digit byte ≡ true → digit_value byte ≡ byte - 48
digit_value-digit byte h = grind (arith, common_steps)
