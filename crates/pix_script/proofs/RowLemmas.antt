-- The text of rows of pixels, one after the other.
use Rattle.std.proofs.Common.{◌≡◌, ℕ, zero, suc, ◌+◌, ◌*◌, ◌<◌, ◌≤◌, true, false, List, [], ◌∷◌, ◌++◌, length, take, drop, map, refl, sym, ap, ◌∙◌, append_assoc, arith}
use Rattle.std.specs.Prelude.{nat_lt, replicate}
use Rattle.std.specs.List.{flat_map, join_with_byte, range_with_len}
use Rattle.std.proofs.lemmas.Bool.Decides.{nat_tests}
use Rattle.std.proofs.lemmas.List.{map-append, take-append-drop, drop-drop, drop_all, length-drop, length-map, length-take-le}
use Rattle.std.proofs.Math.Nat.{suc-mul, mul-le-mul_right}
use Rattle.pix_raster.specs.Image.{Image, point}
use Rattle.pix_script.specs.Rows.{text_from}
use Rattle.pix_script.specs.Text.{pixel_text, row_text, picture_text}
use Rattle.pix_script.proofs.PictureLemmas.{row_is}

-- the text from a column on, where the pixels of the row end, and others come after them
row_rest : (width column : ℕ) (pixel : List ℕ) (row more : List (List ℕ)) → column + 1 + length row ≡ width
    → text_from width column ((pixel ∷ row) ++ more) ≡ (join_with_byte 32 (map pixel_text (pixel ∷ row)) ++ 10 ∷ []) ++ text_from width 0 more
row_rest width column pixel [] more e =
    let last : nat_lt (column + 1) width ≡ false = grind (arith, nat_tests) in
    rw last refl
row_rest width column pixel (next ∷ row) more e =
    let inner : nat_lt (column + 1) width ≡ true = grind (arith, nat_tests) in
    let rest = row_rest width (column + 1) next row more (omega arith) in
    let t : List ℕ = pixel_text pixel in
    let j : List ℕ = join_with_byte 32 (map pixel_text (next ∷ row)) in
    let r : List ℕ = text_from width 0 more in
    let regrouped : (t ++ 32 ∷ []) ++ ((j ++ 10 ∷ []) ++ r) ≡ ((t ++ (32 ∷ j)) ++ 10 ∷ []) ++ r = simp append_assoc in
    rw inner (ap (λ (l : List ℕ). (t ++ 32 ∷ []) ++ l) rest ∙ regrouped)

-- a whole row
row_whole : (width : ℕ) (row more : List (List ℕ)) → 0 < width → length row ≡ width → text_from width 0 (row ++ more) ≡ row_text row ++ text_from width 0 more
unfolding row_text
row_whole width [] more some e = absurd (omega arith)
row_whole width (pixel ∷ row) more some e = row_rest width 0 pixel row more (omega arith)

-- there is room for one row more
row_fits : (y k high width len : ℕ) → y + suc k ≡ high → len ≡ high * width → y * width + width ≤ len
row_fits y k high width len e long =
    let most : suc y * width ≤ high * width = mul-le-mul_right width (omega arith) in
    omega (arith, suc-mul y width, most)

-- the rows from y on
rows_from : {P : Type 0} (n : P → List ℕ) (image : Image P) (k y : ℕ) → 0 < image.width → length image.pixels ≡ image.height * image.width → y + k ≡ image.height
    → text_from image.width 0 (map n (drop (y * image.width) image.pixels))
    ≡ flat_map (λ y. row_text (map (λ x. point n image x y) (range_with_len 0 image.width))) (range_with_len y k)
rows_from n image zero y some long e =
    let w = image.width in
    let same : y ≡ image.height = omega arith in
    let none : drop (y * w) image.pixels ≡ [] = drop_all (y * w) image.pixels (omega (arith, long, ap (λ (h : ℕ). h * w) same)) in
    ap (λ l. text_from w 0 (map n l)) none
rows_from {P} n image (suc k) y some long e =
    let w = image.width in
    let rest : List P = drop (y * w) image.pixels in
    let row : List P = take w rest in
    let fits : y * w + w ≤ length image.pixels = row_fits y k image.height w (length image.pixels) e long in
    let wide : length row ≡ w = length-take-le w rest (omega (arith, length-drop (y * w) image.pixels)) in
    let next : drop w rest ≡ drop ((y + 1) * w) image.pixels =
    drop-drop w (y * w) image.pixels ∙ ap (λ (m : ℕ). drop m image.pixels) (omega (arith, suc-mul y w)) in
    let parts : map n rest ≡ map n row ++ map n (drop ((y + 1) * w) image.pixels) =
    ap (map n) (sym (take-append-drop w rest)) ∙ map-append n row (drop w rest) ∙ ap (λ l. map n row ++ map n l) next in
    ap (text_from w 0) parts
    ∙ row_whole w (map n row) (map n (drop ((y + 1) * w) image.pixels)) some (length-map row n ∙ wide)
    ∙ ap (λ l. row_text l ++ text_from w 0 (map n (drop ((y + 1) * w) image.pixels))) (row_is n image y wide)
    ∙ ap (λ t. row_text (map (λ x. point n image x y) (range_with_len 0 w)) ++ t) (rows_from n image k (y + 1) some long (omega arith))

-- the text of a picture
pub rows_text : {P : Type 0} (n : P → List ℕ) (image : Image P) → 0 < image.width → length image.pixels ≡ image.height * image.width
    → text_from image.width 0 (map n image.pixels) ≡ picture_text (record { width = image.width; height = image.height; at = point n image })
rows_text n image some long =
    let first : 0 * image.width ≡ 0 = omega arith in
    ap (λ m. text_from image.width 0 (map n (drop m image.pixels))) (sym first) ∙ rows_from n image image.height 0 some long (omega arith)

-- rows with no pixel are empty lines
lines_from : (at : ℕ → ℕ → List ℕ) (a k : ℕ) → flat_map (λ y. row_text (map (λ x. at x y) (range_with_len 0 0))) (range_with_len a k) ≡ replicate k 10
unfolding row_text
lines_from at a zero = refl
lines_from at a (suc k) = ap (λ (t : List ℕ). 10 ∷ t) (lines_from at (a + 1) k)

pub empty_lines : (width height : ℕ) (at : ℕ → ℕ → List ℕ) → width ≡ 0 → picture_text (record { width = width; height = height; at = at }) ≡ replicate height 10
empty_lines width height at e = rw e (lines_from at 0 height)
