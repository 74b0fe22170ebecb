-- The text of pixels and of pictures.
use Rattle.std.specs.Prelude.{ℕ, ◌+◌, ◌/◌, ◌%◌, List, [], ◌∷◌, ◌++◌, map, nat_lt, if◌then◌else◌}
use Rattle.std.specs.List.{flat_map, join_with_byte, range_with_len}
use Rattle.pix_script.specs.Picture.{Picture}

-- the lower-case letter of a hexadecimal digit
abbrev pub hex_digit : ℕ → ℕ
hex_digit digit = if nat_lt digit 10 then 48 + digit else 87 + digit

-- the two digits of a byte
abbrev pub hex_byte : ℕ → List ℕ
hex_byte byte = hex_digit (byte / 16) ∷ hex_digit (byte % 16) ∷ []

-- the digits of a pixel's bytes, one after the other
unfoldable pub pixel_text : List ℕ → List ℕ
pixel_text pixel = flat_map hex_byte pixel

-- the texts of a row's pixels, separated by one space, and a line feed
unfoldable pub row_text : List (List ℕ) → List ℕ
row_text row = join_with_byte 32 (map pixel_text row) ++ 10 ∷ []

-- the text of a picture: the texts of its rows from top to bottom
abbrev pub picture_text : Picture → List ℕ
picture_text picture =
    flat_map (λ y. row_text (map (λ x. picture.at x y) (range_with_len 0 picture.width))) (range_with_len 0 picture.height)
