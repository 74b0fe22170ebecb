-- Pixels at another depth, by the list of their channels.
use Rattle.std.proofs.Common.{◌≡◌, ℕ, zero, suc, ◌+◌, ◌*◌, ◌≤◌, List, ◌∷◌, ◌++◌, min, length, map, take, drop, refl, sym, ap, ◌∙◌, arith}
use Rattle.std.proofs.lemmas.List.{length-map, length-take, length-drop, take-map, drop-map, get_or-map, take_at}
use Rattle.std.proofs.lemmas.List.FromFn.{fill_by_all}
use Rattle.pix_el.specs.Pixel.{Layout, channel}
use Rattle.pix_el.specs.Conversion.{at_depth, of_depth}
use Rattle.pix_el.specs.Stored.{in_pixels}

-- what is made of each channel
mapped_in : (f : ℕ → ℕ) (count k : ℕ) (xs : List ℕ) → in_pixels count k (map f xs) ≡ map (map f) (in_pixels count k xs)
mapped_in f count zero xs = refl
mapped_in f count (suc k) xs =
    ap (λ (l : List ℕ). l ∷ in_pixels count k (drop count (map f xs))) (take-map f count xs)
    ∙ ap (λ (l : List ℕ). map f (take count xs) ∷ in_pixels count k l) (drop-map f count xs)
    ∙ ap (λ (l : List (List ℕ)). map f (take count xs) ∷ l) (mapped_in f count k (drop count xs))

-- a pixel of as many channels
one_deep : (layout to : Layout) (pixel : List ℕ) → length pixel ≡ to.count → map (at_depth layout.max to.max) pixel ≡ of_depth layout to pixel
one_deep layout to pixel long =
    let f : ℕ → ℕ = at_depth layout.max to.max in
    fill_by_all (λ ch. f (channel layout.max pixel ch)) (map f pixel) to.count 0 (length-map pixel f ∙ long)
    (λ k h. get_or-map f pixel k layout.max 0 (omega (arith, h, long)))

-- pixels of as many channels
all_deep : (layout to : Layout) (k : ℕ) (xs : List ℕ) → to.count * k ≤ length xs
    → map (map (at_depth layout.max to.max)) (in_pixels to.count k xs) ≡ map (of_depth layout to) (in_pixels to.count k xs)
all_deep layout to zero xs h = refl
all_deep layout to (suc k) xs h =
    let count = to.count in
    let f : ℕ → ℕ = at_depth layout.max to.max in
    let deep : List ℕ → List ℕ = of_depth layout to in
    let e : count * suc k ≡ count + count * k = grind arith in
    let long : length (take count xs) ≡ count = omega (arith, length-take count xs, h, e) in
    let rest : count * k ≤ length (drop count xs) = omega (arith, length-drop count xs, h, e) in
    ap (λ (l : List ℕ). l ∷ map (map f) (in_pixels count k (drop count xs))) (one_deep layout to (take count xs) long)
    ∙ ap (λ (l : List (List ℕ)). deep (take count xs) ∷ l) (all_deep layout to k (drop count xs) rest)

-- pixels that are read, and made of channels at another depth
pub deep_pixels : (layout to : Layout) (max to_max k : ℕ) (xs ys : List ℕ) (pixels made : List (List ℕ)) → layout.max ≡ max → to.max ≡ to_max → layout.count ≡ to.count → to.count * k ≤ length xs
    → in_pixels layout.count k xs ≡ pixels → ys ≡ map (at_depth max to_max) xs → made ≡ in_pixels to.count k ys → made ≡ map (of_depth layout to) pixels
deep_pixels layout to max to_max k xs ys pixels made em et count long read is put =
    put ∙ ap (in_pixels to.count k) (is ∙ ap (λ (m : ℕ). map (at_depth m to_max) xs) (sym em) ∙ ap (λ (m : ℕ). map (at_depth layout.max m) xs) (sym et))
    ∙ mapped_in (at_depth layout.max to.max) to.count k xs
    ∙ all_deep layout to k xs long
    ∙ ap (λ (n : ℕ). map (of_depth layout to) (in_pixels n k xs)) (sym count)
    ∙ ap (map (of_depth layout to)) read

-- there is a place for each channel of eight pixels
pub places_for : (n count long have : ℕ) → n ≡ count → count ≤ 4 → long ≡ 8 → have ≡ min (8 * n) 32 → have ≡ count * long
places_for n count long have same most is room = rw is (omega (arith, same, most, room))

-- the first channels at another depth
pub first_deep : {C D : Type 0} (v : C → ℕ) (w : D → ℕ) (f : ℕ → ℕ) (k : ℕ) (own rest : List C) (made : List D) → length own ≡ k
    → map w made ≡ map f (map v (own ++ rest)) → map w (take k made) ≡ map f (map v own)
first_deep {C = C} v w f k own rest made long is =
    sym (take-map w k made) ∙ ap (take k) is ∙ take-map f k (map v (own ++ rest)) ∙ ap (map f) (take-map v k (own ++ rest))
    ∙ ap (λ (l : List C). map f (map v l)) (take_at own rest k long)
