-- The text of a picture, by its points.
use Rattle.std.proofs.Common.{◌≡◌, ℕ, zero, suc, ◌+◌, ◌*◌, ◌<◌, ◌≤◌, List, [], ◌∷◌, ◌++◌, length, get_or, take, drop, map, refl, sym, ap, ◌∙◌, arith}
use Rattle.std.specs.List.{flat_map, range_with_len}
use Rattle.std.proofs.lemmas.List.{length-map, take-map, drop-map, get_or-take, get_or-drop}
use Rattle.std.proofs.lemmas.List.FromFn.{fill_by_all}
use Rattle.pix_raster.specs.Image.{Image, point}
use Rattle.pix_script.specs.Picture.{Picture}
use Rattle.pix_script.specs.Text.{row_text, picture_text}

-- a row of an image, by its points
pub row_is : {P : Type 0} (n : P → List ℕ) (image : Image P) (y : ℕ)
    → let row = take image.width (drop (y * image.width) image.pixels) in
    length row ≡ image.width → map n row ≡ map (λ x. point n image x y) (range_with_len 0 image.width)
row_is n image y long =
    let w = image.width in
    let row = take w (drop (y * w) image.pixels) in
    fill_by_all (λ x. point n image x y) (map n row) w [] (length-map row n ∙ long) (λ x lx. row_at n image y x lx)
  where
    row_at : {P : Type 0} (n : P → List ℕ) (image : Image P) (y x : ℕ) → x < image.width
        → get_or (map n (take image.width (drop (y * image.width) image.pixels))) x [] ≡ point n image x y
    row_at n image y x lx =
        let w = image.width in
        let at = y * w in
        let whole = map n image.pixels in
        ap (λ l. get_or l x []) (sym (take-map n w (drop at image.pixels)) ∙ ap (take w) (sym (drop-map n at image.pixels)))
        ∙ get_or-take w (drop at whole) x [] lx ∙ get_or-drop at whole x []

map_same : (f g : ℕ → List ℕ) (a n : ℕ) → ((k : ℕ) → a ≤ k → k < a + n → f k ≡ g k) → map f (range_with_len a n) ≡ map g (range_with_len a n)
map_same f g a zero same = refl
map_same f g a (suc n) same =
    let here : f a ≡ g a = same a (omega arith) (omega arith) in
    let more = map_same f g (a + 1) n (λ k l h. same k (omega arith) (omega arith)) in
    ap (λ (t : List ℕ). t ∷ map f (range_with_len (a + 1) n)) here ∙ ap (λ (ts : List (List ℕ)). g a ∷ ts) more

flat_same : (f g : ℕ → List ℕ) (a n : ℕ) → ((k : ℕ) → a ≤ k → k < a + n → f k ≡ g k) → flat_map f (range_with_len a n) ≡ flat_map g (range_with_len a n)
flat_same f g a zero same = refl
flat_same f g a (suc n) same =
    let here : f a ≡ g a = same a (omega arith) (omega arith) in
    let more = flat_same f g (a + 1) n (λ k l h. same k (omega arith) (omega arith)) in
    ap (λ (t : List ℕ). t ++ flat_map f (range_with_len (a + 1) n)) here ∙ ap (λ (ts : List ℕ). g a ++ ts) more

-- pictures that are the same at each point have one text
pub picture_same : (p q : Picture) → p.width ≡ q.width → p.height ≡ q.height → ((x y : ℕ) → x < q.width → y < q.height → p.at x y ≡ q.at x y)
    → picture_text p ≡ picture_text q
picture_same p q wide high same =
    rw (wide, high)
    (flat_same (λ y. row_text (map (λ x. p.at x y) (range_with_len 0 q.width))) (λ y. row_text (map (λ x. q.at x y) (range_with_len 0 q.width))) 0 q.height
    (λ y l h. ap row_text (map_same (λ x. p.at x y) (λ x. q.at x y) 0 q.width (λ x k lt. same x y (omega arith) (omega arith)))))
