-- Lanes of 16 bits by the words of 64 bits that they are four by four.
use Rattle.std.proofs.Common.{◌≡◌, ℕ, zero, suc, ◌+◌, ◌*◌, ◌/◌, ◌%◌, ◌<◌, List, [], ◌∷◌, ◌++◌, length, map, take, drop, replicate, refl, ap, ◌∙◌, arith, w16, Fits}
use lib.Lanes.{zip2, Each1, pick_l, number_l, digits_l}
use borrow.Rule.Slice.PartMut.{put_mid}
use Rattle.std.proofs.lemmas.List.{map-append}
use Rattle.pix_chan.specs.Planes.{last_of_four, last_of_two}
use Rattle.pix_chan.proofs.Lanes.{shr}
use Rattle.pix_chan.proofs.Planes.{cons, four_times}
use Rattle.pix_chan.proofs.Sixteen.{is_sixteen, fourths, spaced}
use Rattle.pix_chan.proofs.Pairs.{is_thirty_two}

abbrev word : ℕ
word = 18446744073709551616

abbrev two_times : ℕ → ℕ
two_times zero = zero
two_times (suc n) = suc (suc (two_times n))

abbrev Small : List ℕ → Type 0
Small = Each1 (λ x. x < 65536)

small_of : (u : List ℕ) → Each1 (Fits w16) u → Small u
small_of [] f = tt
small_of (x ∷ u) f = (f.0.fits, small_of u f.1)

-- a number by its two lower bytes and what is above them
two_bytes : (x r q : ℕ) → x < 65536 → q ≡ r → (x + 65536 * r) % 256 + 256 * ((x + 65536 * r) / 256 % 256 + 256 * q) ≡ x + 65536 * r
two_bytes x r q a e = omega arith

above_bytes : (x r : ℕ) → x < 65536 → (x + 65536 * r) / 256 / 256 ≡ r
above_bytes x r a = omega arith

-- lanes are the number that their bytes are
by_bytes : (n : ℕ) (u : List ℕ) → length u ≡ n → Small u → number_l 256 (digits_l 256 (two_times n) (number_l 65536 u)) ≡ number_l 65536 u
by_bytes zero [] h f = refl
by_bytes zero (x ∷ u) h f = absurd (omega arith)
by_bytes (suc n) [] h f = absurd (omega arith)
by_bytes (suc n) (x ∷ u) h f =
    let r = number_l 65536 u in
    let rest : number_l 256 (digits_l 256 (two_times n) ((x + 65536 * r) / 256 / 256)) ≡ r
    = ap (λ (q : ℕ). number_l 256 (digits_l 256 (two_times n) q)) (above_bytes x r f.0) ∙ by_bytes n u (omega arith) f.1 in
    two_bytes x r (number_l 256 (digits_l 256 (two_times n) ((x + 65536 * r) / 256 / 256))) f.0 rest

lane_of : (x r : ℕ) → x < 65536 → (x + 65536 * r) % 65536 ≡ x
lane_of x r a = omega arith

after_lane : (x r : ℕ) → x < 65536 → (x + 65536 * r) / 65536 ≡ r
after_lane x r a = omega arith

-- the lanes of the number that lanes are
same_lanes : (n : ℕ) (u : List ℕ) → length u ≡ n → Small u → digits_l 65536 n (number_l 65536 u) ≡ u
same_lanes zero [] h f = refl
same_lanes zero (x ∷ u) h f = absurd (omega arith)
same_lanes (suc n) [] h f = absurd (omega arith)
same_lanes (suc n) (x ∷ u) h f =
    let r = number_l 65536 u in
    cons (lane_of x r f.0) (ap (digits_l 65536 n) (after_lane x r f.0) ∙ same_lanes n u (omega arith) f.1)

-- the last of each four lanes: words shifted down by the other three
fourth_of_word : (w x y z r : ℕ) → w < 65536 → x < 65536 → y < 65536 → z < 65536
    → shr ((w + 65536 * (x + 65536 * (y + 65536 * (z + 65536 * r)))) % word) 48 ≡ z
fourth_of_word w x y z r a b c d = omega arith

word_rest : (w x y z r : ℕ) → w < 65536 → x < 65536 → y < 65536 → z < 65536
    → (w + 65536 * (x + 65536 * (y + 65536 * (z + 65536 * r)))) / word ≡ r
word_rest w x y z r a b c d = omega arith

fourths_are : (n : ℕ) (u : List ℕ) → length u ≡ four_times n → Small u
    → zip2 shr (digits_l word n (number_l 65536 u)) (replicate n 48) ≡ fourths u
fourths_are zero [] h f = refl
fourths_are zero (w ∷ u) h f = absurd (omega arith)
fourths_are (suc n) [] h f = absurd (omega arith)
fourths_are (suc n) (w ∷ []) h f = absurd (omega arith)
fourths_are (suc n) (w ∷ x ∷ []) h f = absurd (omega arith)
fourths_are (suc n) (w ∷ x ∷ y ∷ []) h f = absurd (omega arith)
fourths_are (suc n) (w ∷ x ∷ y ∷ z ∷ u) h f =
    let r = number_l 65536 u in
    cons (fourth_of_word w x y z r f.0 f.1.0 f.1.1.0 f.1.1.1.0)
    (ap (λ q. zip2 shr (digits_l word n q) (replicate n 48)) (word_rest w x y z r f.0 f.1.0 f.1.1.0 f.1.1.1.0)
    ∙ fourths_are n u (omega arith) f.1.1.1.1)

-- a word below 2^16: one lane and three of 0
one_word : (v r q : ℕ) → q ≡ r → v + word * q ≡ v + 65536 * (0 + 65536 * (0 + 65536 * (0 + 65536 * r)))
one_word v r q e = omega arith

words_spaced : (u : List ℕ) → number_l word u ≡ number_l 65536 (spaced u)
words_spaced [] = refl
words_spaced (v ∷ u) = one_word v (number_l 65536 (spaced u)) (number_l word u) (words_spaced u)

small_spaced : (u : List ℕ) → Small u → Small (spaced u)
small_spaced [] f = tt
small_spaced (v ∷ u) f = (f.0, ((omega arith), ((omega arith), ((omega arith), small_spaced u f.1))))

small_fourths : (u : List ℕ) → Small u → Small (fourths u)
small_fourths [] f = tt
small_fourths (w ∷ []) f = tt
small_fourths (w ∷ x ∷ []) f = tt
small_fourths (w ∷ x ∷ y ∷ []) f = tt
small_fourths (w ∷ x ∷ y ∷ z ∷ u) f = (f.1.1.1.0, small_fourths u f.1.1.1.1)

abbrev places : List ℕ
places = 0 ∷ 0 ∷ 0 ∷ 0 ∷ 4 ∷ 4 ∷ 4 ∷ 4 ∷ 8 ∷ 8 ∷ 8 ∷ 8 ∷ 12 ∷ 12 ∷ 12 ∷ 12 ∷ []

spread_fourths : (u : List ℕ) → length u ≡ 16
    → (length (spaced (fourths u)) ≡ 16) × (pick_l 0 (spaced (fourths u) ++ spaced (fourths u)) places ≡ last_of_four u)
spread_fourths u h = rw (← (is_sixteen u h).1) (refl, refl)

-- the last channels of four pixels, by the words of their channels
pub spread_are : (u : List ℕ) → length u ≡ 16 → Each1 (Fits w16) u
    → let words = zip2 shr (digits_l 18446744073709551616 4 (number_l 256 (digits_l 256 32 (number_l 65536 u)))) (replicate 4 48) in
    let lanes = digits_l 65536 16 (number_l 256 (digits_l 256 32 (number_l 18446744073709551616 words))) in
    pick_l 0 (lanes ++ lanes) (0 ∷ 0 ∷ 0 ∷ 0 ∷ 4 ∷ 4 ∷ 4 ∷ 4 ∷ 8 ∷ 8 ∷ 8 ∷ 8 ∷ 12 ∷ 12 ∷ 12 ∷ 12 ∷ []) ≡ last_of_four u
spread_are u h fits =
    let f = small_of u fits in
    let both = spread_fourths u h in
    let g = small_spaced (fourths u) (small_fourths u f) in
    let read : zip2 shr (digits_l word 4 (number_l 256 (digits_l 256 32 (number_l 65536 u)))) (replicate 4 48) ≡ fourths u
    = ap (λ (q : ℕ). zip2 shr (digits_l word 4 q) (replicate 4 48)) (by_bytes 16 u h f) ∙ fourths_are 4 u h f in
    let back : digits_l 65536 16 (number_l 256 (digits_l 256 32 (number_l word (fourths u)))) ≡ spaced (fourths u)
    = ap (λ (q : ℕ). digits_l 65536 16 (number_l 256 (digits_l 256 32 q))) (words_spaced (fourths u))
    ∙ ap (digits_l 65536 16) (by_bytes 16 (spaced (fourths u)) both.0 g) ∙ same_lanes 16 (spaced (fourths u)) both.0 g in
    let lanes = ap (λ (l : List ℕ). digits_l 65536 16 (number_l 256 (digits_l 256 32 (number_l word l)))) read ∙ back in
    ap (λ (l : List ℕ). pick_l 0 (l ++ l) places) lanes ∙ both.1

-- the last channels of eight pixels, by those of the first four and of the others
last_of_halves : {A : Type 0} (f : A → ℕ) (u : List A) → length u ≡ 32
    → last_of_four (map f (take 16 u)) ++ last_of_four (map f (take 16 (drop 16 u))) ≡ last_of_four (map f u)
last_of_halves f u h = rw (← (is_thirty_two u h).1) refl

put_halves : {A : Type 0} (p a b : List A) → length p ≡ 32 → length a ≡ 16 → length b ≡ 16 → put_mid 16 16 (a ++ drop 16 p) b ≡ a ++ b
put_halves p a b h i j =
    let e = is_sixteen a i in
    let g = is_sixteen b j in
    let q = is_thirty_two p h in
    rw (← e.1, ← g.1, ← q.1) refl

pub both_spread : {A : Type 0} (f : A → ℕ) (u a b : List A) → length u ≡ 32 → length a ≡ 16 → length b ≡ 16
    → map f a ≡ last_of_four (map f (take 16 u)) → map f b ≡ last_of_four (map f (take 16 (drop 16 u)))
    → map f (put_mid 16 16 (a ++ drop 16 u) b) ≡ last_of_four (map f u)
both_spread f u a b h i j e g =
    ap (map f) (put_halves u a b h i j) ∙ map-append f a b
    ∙ ap (λ (l : List ℕ). l ++ map f b) e ∙ ap (λ (l : List ℕ). last_of_four (map f (take 16 u)) ++ l) g ∙ last_of_halves f u h

-- the same of pixels of two channels
pub last_pairs : (u : List ℕ) → length u ≡ 16
    → pick_l 0 (u ++ u) (1 ∷ 1 ∷ 3 ∷ 3 ∷ 5 ∷ 5 ∷ 7 ∷ 7 ∷ 9 ∷ 9 ∷ 11 ∷ 11 ∷ 13 ∷ 13 ∷ 15 ∷ 15 ∷ []) ≡ last_of_two u
last_pairs u h = rw (← (is_sixteen u h).1) refl

last_two_of_halves : {A : Type 0} (f : A → ℕ) (u : List A) → length u ≡ 32
    → last_of_two (map f (take 16 u)) ++ last_of_two (map f (take 16 (drop 16 u))) ≡ last_of_two (map f u)
last_two_of_halves f u h = rw (← (is_thirty_two u h).1) refl

pub both_last : {A : Type 0} (f : A → ℕ) (u a b : List A) → length u ≡ 32 → length a ≡ 16 → length b ≡ 16
    → map f a ≡ last_of_two (map f (take 16 u)) → map f b ≡ last_of_two (map f (take 16 (drop 16 u)))
    → map f (put_mid 16 16 (a ++ drop 16 u) b) ≡ last_of_two (map f u)
both_last f u a b h i j e g =
    ap (map f) (put_halves u a b h i j) ∙ map-append f a b
    ∙ ap (λ (l : List ℕ). l ++ map f b) e ∙ ap (λ (l : List ℕ). last_of_two (map f (take 16 u)) ++ l) g ∙ last_two_of_halves f u h
