-- Lists of four, eight and sixteen, element by element.
use Rattle.std.proofs.Common.{◌≡◌, ℕ, zero, suc, ◌+◌, ◌*◌, ◌/◌, ◌%◌, ◌<◌, List, [], ◌∷◌, ◌++◌, length, map, take, drop, get_or, replicate, refl, ap, ◌∙◌, arith, w8, Fits}
use lib.Lanes.{zip2, Each1, pick_l, number_l, digits_l}
use Rattle.pix_chan.proofs.Lanes.{shr}
use Rattle.pix_chan.proofs.Planes.{cons, four_times}
use Rattle.std.proofs.lemmas.List.{length-take, length-drop, take-append-drop}
use Rattle.pix_chan.specs.Lanes.{indexes}
use Rattle.pix_chan.specs.Planes.{both_in_turn, last_of_four}

-- a list of 4 as the tuple of its elements
pub is_four : {A : Type 0} (p : List A) → length p ≡ 4 → (w : A × A × A × A) × (w.0 ∷ w.1 ∷ w.2 ∷ w.3 ∷ [] ≡ p)
is_four [] h = absurd (omega arith)
is_four (x0 ∷ []) h = absurd (omega arith)
is_four (x0 ∷ x1 ∷ []) h = absurd (omega arith)
is_four (x0 ∷ x1 ∷ x2 ∷ []) h = absurd (omega arith)
is_four (x0 ∷ x1 ∷ x2 ∷ x3 ∷ []) h = ((x0, x1, x2, x3), refl)
is_four (x0 ∷ x1 ∷ x2 ∷ x3 ∷ y ∷ ys) h = absurd (omega arith)

-- a list by its two halves
module _ {A : Type 0} (n : ℕ) (p : List A) where
  pub first_half : length p ≡ n + n → length (take n p) ≡ n
  first_half h = omega (arith, length-take n p)

  pub second_half : length p ≡ n + n → length (drop n p) ≡ n
  second_half h = omega (arith, length-drop n p)

  pub both_halves : {u v : List A} → u ≡ take n p → v ≡ drop n p → u ++ v ≡ p
  both_halves e f = rw (e, f) (take-append-drop n p)

-- a list of 8 as the tuple of its elements
pub is_eight : {A : Type 0} (p : List A) → length p ≡ 8 → (w : A × A × A × A × A × A × A × A) × (w.0 ∷ w.1 ∷ w.2 ∷ w.3 ∷ w.4 ∷ w.5 ∷ w.6 ∷ w.7 ∷ [] ≡ p)
is_eight p h =
    let a = is_four (take 4 p) (first_half 4 p h) in
    let b = is_four (drop 4 p) (second_half 4 p h) in
    ((a.0.0, a.0.1, a.0.2, a.0.3, b.0.0, b.0.1, b.0.2, b.0.3), both_halves 4 p a.1 b.1)

-- a list of 16 as the tuple of its elements
pub is_sixteen : {A : Type 0} (p : List A) → length p ≡ 16 → (w : A × A × A × A × A × A × A × A × A × A × A × A × A × A × A × A) × (w.0 ∷ w.1 ∷ w.2 ∷ w.3 ∷ w.4 ∷ w.5 ∷ w.6 ∷ w.7 ∷ w.8 ∷ w.9 ∷ w.10 ∷ w.11 ∷ w.12 ∷ w.13 ∷ w.14 ∷ w.15 ∷ [] ≡ p)
is_sixteen p h =
    let a = is_eight (take 8 p) (first_half 8 p h) in
    let b = is_eight (drop 8 p) (second_half 8 p h) in
    ((a.0.0, a.0.1, a.0.2, a.0.3, a.0.4, a.0.5, a.0.6, a.0.7, b.0.0, b.0.1, b.0.2, b.0.3, b.0.4, b.0.5, b.0.6, b.0.7), both_halves 8 p a.1 b.1)

-- a list of 16 is its elements, whatever is named for places past its end
pub whole16 : {A : Type 0} (xs : List A) (d0 d1 d2 d3 d4 d5 d6 d7 d8 d9 d10 d11 d12 d13 d14 d15 : A) → length xs ≡ 16 → get_or xs 0 d0 ∷ get_or xs 1 d1 ∷ get_or xs 2 d2 ∷ get_or xs 3 d3 ∷ get_or xs 4 d4 ∷ get_or xs 5 d5 ∷ get_or xs 6 d6 ∷ get_or xs 7 d7 ∷ get_or xs 8 d8 ∷ get_or xs 9 d9 ∷ get_or xs 10 d10 ∷ get_or xs 11 d11 ∷ get_or xs 12 d12 ∷ get_or xs 13 d13 ∷ get_or xs 14 d14 ∷ get_or xs 15 d15 ∷ [] ≡ xs
whole16 xs d0 d1 d2 d3 d4 d5 d6 d7 d8 d9 d10 d11 d12 d13 d14 d15 h = rw (← (is_sixteen xs h).1) refl

module _ {A : Type 0} (f : A → ℕ) (a b : List A) (d0 d1 d2 d3 d4 d5 d6 d7 d8 d9 d10 d11 d12 d13 d14 d15 : A) where
  pub evens_are : length a ≡ 16 → length b ≡ 16 → f (get_or a 0 d0) ∷ f (get_or a 2 d1) ∷ f (get_or a 4 d2) ∷ f (get_or a 6 d3) ∷ f (get_or a 8 d4) ∷ f (get_or a 10 d5) ∷ f (get_or a 12 d6) ∷ f (get_or a 14 d7) ∷ f (get_or b 0 d8) ∷ f (get_or b 2 d9) ∷ f (get_or b 4 d10) ∷ f (get_or b 6 d11) ∷ f (get_or b 8 d12) ∷ f (get_or b 10 d13) ∷ f (get_or b 12 d14) ∷ f (get_or b 14 d15) ∷ [] ≡ pick_l 0 (map f a ++ map f b) (indexes 2 0)
  evens_are h k = rw (← (is_sixteen a h).1, ← (is_sixteen b k).1) refl

  pub odds_are : length a ≡ 16 → length b ≡ 16 → f (get_or a 1 d0) ∷ f (get_or a 3 d1) ∷ f (get_or a 5 d2) ∷ f (get_or a 7 d3) ∷ f (get_or a 9 d4) ∷ f (get_or a 11 d5) ∷ f (get_or a 13 d6) ∷ f (get_or a 15 d7) ∷ f (get_or b 1 d8) ∷ f (get_or b 3 d9) ∷ f (get_or b 5 d10) ∷ f (get_or b 7 d11) ∷ f (get_or b 9 d12) ∷ f (get_or b 11 d13) ∷ f (get_or b 13 d14) ∷ f (get_or b 15 d15) ∷ [] ≡ pick_l 0 (map f a ++ map f b) (indexes 2 1)
  odds_are h k = rw (← (is_sixteen a h).1, ← (is_sixteen b k).1) refl

  pub both_are : length a ≡ 8 → length b ≡ 8 → f (get_or a 0 d0) ∷ f (get_or b 0 d1) ∷ f (get_or a 1 d2) ∷ f (get_or b 1 d3) ∷ f (get_or a 2 d4) ∷ f (get_or b 2 d5) ∷ f (get_or a 3 d6) ∷ f (get_or b 3 d7) ∷ f (get_or a 4 d8) ∷ f (get_or b 4 d9) ∷ f (get_or a 5 d10) ∷ f (get_or b 5 d11) ∷ f (get_or a 6 d12) ∷ f (get_or b 6 d13) ∷ f (get_or a 7 d14) ∷ f (get_or b 7 d15) ∷ [] ≡ both_in_turn (map f a) (map f b)
  both_are h k = rw (← (is_eight a h).1, ← (is_eight b k).1) refl

pub halves : {A : Type 0} (p : List A) → length p ≡ 16 → take 8 p ++ take 8 (drop 8 p) ≡ p
halves p h = rw (← (is_sixteen p h).1) refl

-- a list of 8 is its elements, whatever is named for places past its end
pub whole8 : {A : Type 0} (xs : List A) (d0 d1 d2 d3 d4 d5 d6 d7 : A) → length xs ≡ 8 → get_or xs 0 d0 ∷ get_or xs 1 d1 ∷ get_or xs 2 d2 ∷ get_or xs 3 d3 ∷ get_or xs 4 d4 ∷ get_or xs 5 d5 ∷ get_or xs 6 d6 ∷ get_or xs 7 d7 ∷ [] ≡ xs
whole8 xs d0 d1 d2 d3 d4 d5 d6 d7 h = rw (← (is_eight xs h).1) refl

-- what is made of each of eight
pub mapped8 : {A B : Type 0} (f : A → B) (xs : List A) (d0 d1 d2 d3 d4 d5 d6 d7 : A) {r0 r1 r2 r3 r4 r5 r6 r7 : B} → length xs ≡ 8
    → r0 ≡ f (get_or xs 0 d0) → r1 ≡ f (get_or xs 1 d1) → r2 ≡ f (get_or xs 2 d2) → r3 ≡ f (get_or xs 3 d3) → r4 ≡ f (get_or xs 4 d4) → r5 ≡ f (get_or xs 5 d5) → r6 ≡ f (get_or xs 6 d6) → r7 ≡ f (get_or xs 7 d7)
    → r0 ∷ r1 ∷ r2 ∷ r3 ∷ r4 ∷ r5 ∷ r6 ∷ r7 ∷ [] ≡ map f xs
mapped8 {B = B} f xs d0 d1 d2 d3 d4 d5 d6 d7 h e0 e1 e2 e3 e4 e5 e6 e7 =
    rw (e0, e1, e2, e3, e4, e5, e6, e7) (ap (map f) (whole8 xs d0 d1 d2 d3 d4 d5 d6 d7 h))

-- the last of each four bytes: words shifted down by the other three
fourth_of_word : (w x y z r : ℕ) → w < 256 → x < 256 → y < 256 → z < 256
    → shr ((w + 256 * (x + 256 * (y + 256 * (z + 256 * r)))) % 4294967296) 24 ≡ z
fourth_of_word w x y z r a b c d = omega arith

word_rest : (w x y z r : ℕ) → w < 256 → x < 256 → y < 256 → z < 256
    → (w + 256 * (x + 256 * (y + 256 * (z + 256 * r)))) / 4294967296 ≡ r
word_rest w x y z r a b c d = omega arith

abbrev pub fourths : List ℕ → List ℕ
fourths [] = []
fourths (w ∷ []) = []
fourths (w ∷ x ∷ []) = []
fourths (w ∷ x ∷ y ∷ []) = []
fourths (w ∷ x ∷ y ∷ z ∷ u) = z ∷ fourths u

pub fourths_are : (n : ℕ) (u : List ℕ) → length u ≡ four_times n → Each1 (Fits w8) u
    → zip2 shr (digits_l 4294967296 n (number_l 256 u)) (replicate n 24) ≡ fourths u
fourths_are zero [] h f = refl
fourths_are zero (w ∷ u) h f = absurd (omega arith)
fourths_are (suc n) [] h f = absurd (omega arith)
fourths_are (suc n) (w ∷ []) h f = absurd (omega arith)
fourths_are (suc n) (w ∷ x ∷ []) h f = absurd (omega arith)
fourths_are (suc n) (w ∷ x ∷ y ∷ []) h f = absurd (omega arith)
fourths_are (suc n) (w ∷ x ∷ y ∷ z ∷ u) h f =
    let a : w < 256 = f.0.fits in
    let b : x < 256 = f.1.0.fits in
    let c : y < 256 = f.1.1.0.fits in
    let d : z < 256 = f.1.1.1.0.fits in
    cons (fourth_of_word w x y z (number_l 256 u) a b c d)
    (ap (λ r. zip2 shr (digits_l 4294967296 n r) (replicate n 24)) (word_rest w x y z (number_l 256 u) a b c d)
    ∙ fourths_are n u (omega arith) f.1.1.1.1)

-- the bytes of words below 256: each and three of 0
byte_of_word : (v r : ℕ) → v < 256 → (v + 4294967296 * r) % 256 ≡ v
byte_of_word v r a = omega arith

second_of_word : (v r : ℕ) → v < 256 → (v + 4294967296 * r) / 256 % 256 ≡ 0
second_of_word v r a = omega arith

third_of_word : (v r : ℕ) → v < 256 → (v + 4294967296 * r) / 256 / 256 % 256 ≡ 0
third_of_word v r a = omega arith

last_of_word : (v r : ℕ) → v < 256 → (v + 4294967296 * r) / 256 / 256 / 256 % 256 ≡ 0
last_of_word v r a = omega arith

after_word : (v r : ℕ) → v < 256 → (v + 4294967296 * r) / 256 / 256 / 256 / 256 ≡ r
after_word v r a = omega arith

abbrev pub spaced : List ℕ → List ℕ
spaced [] = []
spaced (v ∷ u) = v ∷ 0 ∷ 0 ∷ 0 ∷ spaced u

pub spaced_are : (n : ℕ) (u : List ℕ) → length u ≡ n → Each1 (Fits w8) u → digits_l 256 (four_times n) (number_l 4294967296 u) ≡ spaced u
spaced_are zero [] h f = refl
spaced_are zero (v ∷ u) h f = absurd (omega arith)
spaced_are (suc n) [] h f = absurd (omega arith)
spaced_are (suc n) (v ∷ u) h f =
    let a : v < 256 = f.0.fits in
    let r = number_l 4294967296 u in
    cons (byte_of_word v r a) (cons (second_of_word v r a) (cons (third_of_word v r a) (cons (last_of_word v r a)
    (ap (digits_l 256 (four_times n)) (after_word v r a) ∙ spaced_are n u (omega arith) f.1))))

-- the last channels of four pixels, by the words of their channels
spread_fourths : (u : List ℕ) → length u ≡ 16
    → (length (fourths u) ≡ 4)
    × (pick_l 0 (spaced (fourths u) ++ spaced (fourths u)) (0 ∷ 0 ∷ 0 ∷ 0 ∷ 4 ∷ 4 ∷ 4 ∷ 4 ∷ 8 ∷ 8 ∷ 8 ∷ 8 ∷ 12 ∷ 12 ∷ 12 ∷ 12 ∷ []) ≡ last_of_four u)
spread_fourths u h = rw (← (is_sixteen u h).1) (refl, refl)

pub Each1-fourths : (u : List ℕ) → Each1 (Fits w8) u → Each1 (Fits w8) (fourths u)
Each1-fourths [] f = tt
Each1-fourths (w ∷ []) f = tt
Each1-fourths (w ∷ x ∷ []) f = tt
Each1-fourths (w ∷ x ∷ y ∷ []) f = tt
Each1-fourths (w ∷ x ∷ y ∷ z ∷ u) f = (f.1.1.1.0, Each1-fourths u f.1.1.1.1)

pub spread_are : (u : List ℕ) → length u ≡ 16 → Each1 (Fits w8) u
    → let bytes = digits_l 256 16 (number_l 4294967296 (zip2 shr (digits_l 4294967296 4 (number_l 256 u)) (replicate 4 24))) in
    pick_l 0 (bytes ++ bytes) (0 ∷ 0 ∷ 0 ∷ 0 ∷ 4 ∷ 4 ∷ 4 ∷ 4 ∷ 8 ∷ 8 ∷ 8 ∷ 8 ∷ 12 ∷ 12 ∷ 12 ∷ 12 ∷ []) ≡ last_of_four u
spread_are u h f =
    let both = spread_fourths u h in
    let words = fourths_are 4 u h f in
    let bytes = ap (λ (l : List ℕ). digits_l 256 16 (number_l 4294967296 l)) words ∙ spaced_are 4 (fourths u) both.0 (Each1-fourths u f) in
    ap (λ (l : List ℕ). pick_l 0 (l ++ l) (0 ∷ 0 ∷ 0 ∷ 0 ∷ 4 ∷ 4 ∷ 4 ∷ 4 ∷ 8 ∷ 8 ∷ 8 ∷ 8 ∷ 12 ∷ 12 ∷ 12 ∷ 12 ∷ [])) bytes ∙ both.1

alphas_at : {A : Type 0} (f : A → ℕ) (u : List A) (d0 d1 d2 d3 : A) → length u ≡ 16
    → let a = f (get_or u 3 d0) in
    let b = f (get_or u 7 d1) in
    let c = f (get_or u 11 d2) in
    let d = f (get_or u 15 d3) in
    a ∷ a ∷ a ∷ a ∷ b ∷ b ∷ b ∷ b ∷ c ∷ c ∷ c ∷ c ∷ d ∷ d ∷ d ∷ d ∷ [] ≡ last_of_four (map f u)
alphas_at f u d0 d1 d2 d3 h = rw (← (is_sixteen u h).1) refl

pub alphas_are : {A : Type 0} (f : A → ℕ) (u : List A) (d0 d1 d2 d3 : A) {a b c d : ℕ} → length u ≡ 16
    → a ≡ f (get_or u 3 d0) → b ≡ f (get_or u 7 d1) → c ≡ f (get_or u 11 d2) → d ≡ f (get_or u 15 d3)
    → a ∷ a ∷ a ∷ a ∷ b ∷ b ∷ b ∷ b ∷ c ∷ c ∷ c ∷ c ∷ d ∷ d ∷ d ∷ d ∷ [] ≡ last_of_four (map f u)
alphas_are f u d0 d1 d2 d3 h i j k l = rw (i, j, k, l) (alphas_at f u d0 d1 d2 d3 h)
