-- Images whose rows lie a stride apart in a buffer.
use Rattle.std.proofs.Common.{◌≡◌, ℕ, zero, suc, ◌+◌, ◌-◌, ◌*◌, ◌<◌, ◌≤◌, List, [], ◌∷◌, ◌++◌, length, map, get_or, take, drop, refl, arith, ap, sym, ◌∙◌}
use Rattle.std.proofs.lemmas.List.{map-append, take-map, drop-map, length-map, length-take-le, length-drop, get_or_append_left, get_or-append_right, get_or-take, get_or-drop}
use Rattle.pix_raster.specs.Image.{point}
use Rattle.pix_raster.specs.View.{read_at, IsShaped}
use Rattle.pix_raster.specs.Draw.{joined_rows, image_of}

-- what stands in the rows of an image stands in its buffer
row_read : {D : Type 0} (n : D → List ℕ) (width height stride : ℕ) (xs : List D) (x y : ℕ) → x < width → y < height → width ≤ stride
    → ((r : ℕ) → r < height → r * stride + width ≤ length xs)
    → get_or (map n (joined_rows width height stride xs)) (y * width + x) [] ≡ get_or (map n xs) (y * stride + x) []
row_read n width zero stride xs x y lx ly apart last = absurd (omega arith)
row_read n width (suc height) stride xs x zero lx ly apart last =
    let fits : width ≤ length xs = let h = last 0 (omega arith) in omega (arith, h) in
    let front : length (map n (take width xs)) ≡ width = length-map (take width xs) n ∙ length-take-le width xs fits in
    ap (λ l. get_or l (0 * width + x) []) (map-append n (take width xs) (joined_rows width height stride (drop stride xs)))
    ∙ ap (λ k. get_or (map n (take width xs) ++ map n (joined_rows width height stride (drop stride xs))) k []) (let e : 0 * width + x ≡ x = omega arith in e)
    ∙ get_or_append_left (map n (take width xs)) _ [] x (omega arith)
    ∙ ap (λ l. get_or l x []) (sym (take-map n width xs))
    ∙ get_or-take width (map n xs) x [] lx
    ∙ ap (λ k. get_or (map n xs) k []) (let e : x ≡ 0 * stride + x = omega arith in e)
row_read n width (suc height) stride xs x (suc y) lx ly apart last =
    let fits : width ≤ length xs = let h = last 0 (omega arith) in omega (arith, h) in
    let front : length (map n (take width xs)) ≡ width = length-map (take width xs) n ∙ length-take-le width xs fits in
    let rest : List (List ℕ) = map n (joined_rows width height stride (drop stride xs)) in
    let place : suc y * width + x - width ≡ y * width + x = omega arith in
    ap (λ l. get_or l (suc y * width + x) []) (map-append n (take width xs) (joined_rows width height stride (drop stride xs)))
    ∙ get_or-append_right (map n (take width xs)) rest width (suc y * width + x) [] front (omega arith)
    ∙ ap (λ k. get_or rest k []) place
    ∙ row_read n width height stride (drop stride xs) x y lx (omega arith) apart
    (λ r lt. let h : suc r * stride + width ≤ length xs = last (suc r) (omega arith) in omega (arith, h, length-drop stride xs))
    ∙ ap (λ l. get_or l (y * stride + x) []) (sym (drop-map n stride xs))
    ∙ get_or-drop stride (map n xs) (y * stride + x) []
    ∙ ap (λ k. get_or (map n xs) k []) (let e : stride + (y * stride + x) ≡ suc y * stride + x = omega arith in e)

-- the pixel at a point of an image is the one that is read there
pub point_read : {D : Type 0} (n : D → List ℕ) (width height stride : ℕ) (xs : List D) (x y : ℕ)
    → IsShaped (record { width = width; height = height; stride = stride }) (length xs) → x < width → y < height
    → point n (image_of width height stride xs) x y ≡ read_at n stride xs x y
point_read n width height stride xs x y shaped lx ly = row_read n width height stride xs x y lx ly shaped.apart shaped.last

none_long : {D : Type 0} (xs : List D) → length xs ≡ 0 → [] ≡ xs
none_long [] e = refl
none_long (x ∷ xs) e = absurd (omega arith)

parts : {D : Type 0} (n : ℕ) (xs : List D) → take n xs ++ drop n xs ≡ xs
parts zero xs = refl
parts (suc n) [] = refl
parts {D = D} (suc n) (x ∷ xs) = ap (λ (l : List D). x ∷ l) (parts n xs)

-- rows that follow one another without a gap are the buffer
pub dense_rows : {D : Type 0} (width height : ℕ) (xs : List D) → length xs ≡ height * width → joined_rows width height width xs ≡ xs
dense_rows width zero xs e = none_long xs (omega arith)
dense_rows {D = D} width (suc height) xs e =
    let rest : length (drop width xs) ≡ height * width = omega (arith, length-drop width xs) in
    ap (λ (l : List D). take width xs ++ l) (dense_rows width height (drop width xs) rest) ∙ parts width xs
