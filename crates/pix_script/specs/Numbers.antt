-- What the words of a script spell: numbers and colors.
use Rattle.std.specs.Prelude.{ℕ, ◌+◌, ◌*◌, List, [], ◌∷◌, length, drop, slice_index, ◌&&◌, Option, Some, None, option_and_then, nat_lt, nat_le, ◌==◌, if◌then◌else◌, ℤ, pos, neg_ℤ}
use Rattle.std.specs.Option.{option_map}
use Rattle.std.specs.Str.{all_ascii_digits}
use Rattle.std.specs.Str.Parse.{digits_value}
use Rattle.std.specs.Char.{digit_value, is_ascii_hexdigit}

-- one decimal digit or more and nothing else, where the number is at most the limit
unfoldable pub number_up_to : ℕ → List ℕ → Option ℕ
number_up_to limit word =
    if (nat_lt 0 (length word) && all_ascii_digits word) && nat_le (digits_value 10 word) limit
    then Some (digits_value 10 word)
    else None

-- a width or a height: digits alone
unfoldable pub side_of : List ℕ → Option ℕ
side_of word = number_up_to 2147483647 word

-- a place across or down: digits, with at most one minus before them
unfoldable pub coordinate_of : List ℕ → Option ℤ
coordinate_of word =
    if slice_index word 0 == 45
    then option_map (λ number. neg_ℤ (pos number)) (number_up_to 2147483648 (drop 1 word))
    else option_map pos (number_up_to 2147483647 word)

-- the second value made from the first, where both are there
infixl 10 ◌>>=◌
abbrev pub ◌>>=◌ : {A B : Type 0} → Option A → (A → Option B) → Option B
value >>= next = option_and_then next value

-- the value of a hexadecimal digit, in either case
unfoldable pub hex_digit_of : ℕ → Option ℕ
hex_digit_of letter = if is_ascii_hexdigit letter then Some (digit_value letter) else None

-- the byte that two hexadecimal digits spell
unfoldable pub hex_byte_of : ℕ → ℕ → Option ℕ
hex_byte_of high low = do
  h ← hex_digit_of high
  l ← hex_digit_of low
  Some (16 * h + l)

-- eight hexadecimal digits: red, green, blue and alpha
unfoldable pub color_of : List ℕ → Option (List ℕ)
color_of (r ∷ r' ∷ g ∷ g' ∷ b ∷ b' ∷ a ∷ a' ∷ []) = do
  red ← hex_byte_of r r'
  green ← hex_byte_of g g'
  blue ← hex_byte_of b b'
  alpha ← hex_byte_of a a'
  Some (red ∷ green ∷ blue ∷ alpha ∷ [])
color_of _ = None
