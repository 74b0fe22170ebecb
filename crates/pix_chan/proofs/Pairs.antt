-- Lists of thirty-two, and products of bytes by pairs: even and odd lanes apart, and together
-- again.
use Rattle.std.proofs.Common.{◌≡◌, ℕ, zero, suc, ◌+◌, ◌*◌, ◌/◌, ◌%◌, ◌^◌, ◌<◌, ◌≤◌, List, [], ◌∷◌, ◌++◌, length, take, drop, get_or, map, refl, ap, sym, ◌∙◌, arith, replicate, subst, w8, Fits, bit_and, bit_or}
use Rattle.std.specs.Int.Bits.{or_shifted_r, or_zero_l, or_zero_r}
use mir.Syntax.{w16}
use lib.Lanes.{zip2, Each1, pick_l, number_l, digits_l}
use Rattle.std.proofs.lemmas.List.{map-id}
use Rattle.std.proofs.lemmas.Simd.{zip2_of_maps, splat_is_map, map-map}
use Rattle.pix_chan.specs.Product.{channel_product}
use Rattle.pix_chan.proofs.LaneProduct.{near_lane, near_fits}
use Rattle.pix_chan.proofs.Lanes.{add, mul, shr, shl, same, pairs, firsts, seconds, length-pairs, wide, Each1-wide}
use Rattle.pix_chan.proofs.Planes.{of_pairs, low, high, lows, highs, cons, Each1-of_pairs}
use Rattle.pix_chan.proofs.Sixteen.{is_eight, is_sixteen, first_half, second_half, both_halves, fourths, fourths_are, spaced, spaced_are, Each1-fourths}
use Rattle.pix_chan.specs.Planes.{last_of_four, last_of_two}
use Rattle.pix_chan.specs.Runs.{over}
use Rattle.pix_chan.specs.Lanes.{high_half, indexes_from}

-- a function of each pair
zipped : (a b : List ℕ) → map wide (pairs a b) ≡ zip2 high_half a b
zipped [] b = refl
zipped (x ∷ a) [] = refl
zipped (x ∷ a) (y ∷ b) = ap (λ (l : List ℕ). high_half x y ∷ l) (zipped a b)

module _ (n : ℕ) (a b : List ℕ) (la : length a ≡ n) (lb : length b ≡ n) where
  abbrev halves : List ℕ
  halves = zip2 shr (zip2 (mul (2 ^ 32)) (map same (zip2 (add (2 ^ 16)) (zip2 (mul (2 ^ 16)) a b) (replicate n 128))) (replicate n 257)) (replicate n 16)

  halves_are : halves ≡ map wide (pairs a b)
  halves_are =
      let vs = pairs a b in
      let l = length-pairs a b n la lb in
      let p = zip2_of_maps (mul (2 ^ 16)) _ _ vs (firsts a b (la ∙ sym lb)) (seconds a b (la ∙ sym lb)) in
      let s = zip2_of_maps (add (2 ^ 16)) _ _ vs p (splat_is_map vs n 128 l) in
      let ss = ap (map same) s ∙ map-map same _ vs in
      let t = zip2_of_maps (mul (2 ^ 32)) _ _ vs ss (splat_is_map vs n 257 l) in
      zip2_of_maps shr _ _ vs t (splat_is_map vs n 16 l)

  pub halves_fit : Each1 (Fits w16) halves
  halves_fit = subst (Each1 (Fits w16)) (sym halves_are) (Each1-wide (pairs a b))

  pub near_are : map same halves ≡ zip2 high_half a b
  near_are = ap (map same) (halves_are ∙ zipped a b) ∙ map-id _

abbrev pub twice : ℕ → ℕ
twice zero = zero
twice (suc n) = suc (suc (twice n))

-- each number and one of 0
abbrev pub apart : List ℕ → List ℕ
apart [] = []
apart (v ∷ u) = v ∷ 0 ∷ apart u

-- each number after one of z
abbrev pub after : ℕ → List ℕ → List ℕ
after z [] = []
after z (v ∷ u) = z ∷ v ∷ after z u

-- each number twice
abbrev pub doubled : List ℕ → List ℕ
doubled [] = []
doubled (v ∷ u) = v ∷ v ∷ doubled u

low_byte : (v r : ℕ) → v < 256 → (v + 65536 * r) % 256 ≡ v
low_byte v r a = omega arith

high_byte : (v r : ℕ) → v < 256 → (v + 65536 * r) / 256 % 256 ≡ 0
high_byte v r a = omega arith

further_bytes : (v r : ℕ) → v < 256 → (v + 65536 * r) / 256 / 256 ≡ r
further_bytes v r a = omega arith

-- the bytes of words below 256
pub apart_are : (n : ℕ) (u : List ℕ) → length u ≡ n → Each1 (Fits w8) u → digits_l 256 (twice n) (number_l 65536 u) ≡ apart u
apart_are zero [] h f = refl
apart_are zero (v ∷ u) h f = absurd (omega arith)
apart_are (suc n) [] h f = absurd (omega arith)
apart_are (suc n) (v ∷ u) h f =
    let a : v < 256 = f.0.fits in
    let r = number_l 65536 u in
    cons (low_byte v r a) (cons (high_byte v r a) (ap (digits_l 256 (twice n)) (further_bytes v r a) ∙ apart_are n u (omega arith) f.1))

word_apart : (v r : ℕ) → v < 256 → (v + 256 * (0 + 256 * r)) % 65536 ≡ v
word_apart v r a = omega arith

words_further : (v r : ℕ) → v < 256 → (v + 256 * (0 + 256 * r)) / 65536 ≡ r
words_further v r a = omega arith

-- .. and words of these bytes
pub words_apart : (n : ℕ) (u : List ℕ) → length u ≡ n → Each1 (Fits w8) u → digits_l 65536 n (number_l 256 (apart u)) ≡ u
words_apart zero [] h f = refl
words_apart zero (v ∷ u) h f = absurd (omega arith)
words_apart (suc n) [] h f = absurd (omega arith)
words_apart (suc n) (v ∷ u) h f =
    let a : v < 256 = f.0.fits in
    let r = number_l 256 (apart u) in
    cons (word_apart v r a) (ap (digits_l 65536 n) (words_further v r a) ∙ words_apart n u (omega arith) f.1)

word_is : (p : ℕ) → p < 256 → bit_or p (p * 2 ^ 8 % 2 ^ 16) ≡ p + 256 * p
word_is p a = let e : p * 2 ^ 8 % 2 ^ 16 ≡ p * 2 ^ 8 = omega arith in rw e (or_shifted_r p 8 p a ∙ omega arith)

first_byte : (p z : ℕ) → p < 256 → (p + 256 * p + 65536 * z) % 256 ≡ p
first_byte p z a = omega arith

second_byte : (p z : ℕ) → p < 256 → (p + 256 * p + 65536 * z) / 256 % 256 ≡ p
second_byte p z a = omega arith

other_bytes : (p z : ℕ) → p < 256 → (p + 256 * p + 65536 * z) / 256 / 256 ≡ z
other_bytes p z a = omega arith

-- words whose low bytes are put into both
pub doubled_are : (n : ℕ) (u : List ℕ) → length u ≡ n → Each1 (Fits w8) u
    → digits_l 256 (twice n) (number_l 65536 (zip2 bit_or u (zip2 (shl (2 ^ 16)) u (replicate n 8)))) ≡ doubled u
doubled_are zero [] h f = refl
doubled_are zero (v ∷ u) h f = absurd (omega arith)
doubled_are (suc n) [] h f = absurd (omega arith)
doubled_are (suc n) (v ∷ u) h f =
    let a : v < 256 = f.0.fits in
    let z = number_l 65536 (zip2 bit_or u (zip2 (shl (2 ^ 16)) u (replicate n 8))) in
    ap (λ (w : ℕ). digits_l 256 (suc (suc (twice n))) (w + 65536 * z)) (word_is v a)
    ∙ cons (first_byte v z a) (cons (second_byte v z a) (ap (digits_l 256 (twice n)) (other_bytes v z a) ∙ doubled_are n u (omega arith) f.1))

Each1-doubled : (u : List ℕ) → Each1 (Fits w8) u → Each1 (Fits w8) (doubled u)
Each1-doubled [] f = tt
Each1-doubled (v ∷ u) f = (f.0, (f.0, Each1-doubled u f.1))

-- products of bytes in words
products_fit : (a b : List ℕ) → Each1 (Fits w8) a → Each1 (Fits w8) b → Each1 (Fits w8) (zip2 high_half a b)
products_fit [] b f g = tt
products_fit (x ∷ a) [] f g = tt
products_fit (x ∷ a) (y ∷ b) f g = (rw (near_lane x y f.0.fits g.0.fits) (near_fits x y f.0 g.0), products_fit a b f.1 g.1)

products_long : (g : ℕ → ℕ → ℕ) (n : ℕ) (a b : List ℕ) → length a ≡ n + n → length b ≡ n + n → length (zip2 high_half (of_pairs g a) (of_pairs g b)) ≡ n
products_long g zero [] b h k = refl
products_long g zero (x ∷ a) b h k = absurd (omega arith)
products_long g (suc n) [] b h k = absurd (omega arith)
products_long g (suc n) (x ∷ []) b h k = absurd (omega arith)
products_long g (suc n) (x ∷ y ∷ a) [] h k = absurd (omega arith)
products_long g (suc n) (x ∷ y ∷ a) (u ∷ []) h k = absurd (omega arith)
products_long g (suc n) (x ∷ y ∷ a) (u ∷ v ∷ b) h k = ap suc (products_long g n a b (omega arith) (omega arith))

alternate : (n : ℕ) (a b : List ℕ) → length a ≡ n + n → length b ≡ n + n → Each1 (Fits w8) a → Each1 (Fits w8) b
    → zip2 bit_or (apart (zip2 high_half (of_pairs low a) (of_pairs low b))) (after 0 (zip2 high_half (of_pairs high a) (of_pairs high b)))
    ≡ zip2 (channel_product 255) a b
alternate zero [] b h k f g = refl
alternate zero (x ∷ a) b h k f g = absurd (omega arith)
alternate (suc n) [] b h k f g = absurd (omega arith)
alternate (suc n) (x ∷ []) b h k f g = absurd (omega arith)
alternate (suc n) (x ∷ y ∷ a) [] h k f g = absurd (omega arith)
alternate (suc n) (x ∷ y ∷ a) (u ∷ []) h k f g = absurd (omega arith)
alternate (suc n) (x ∷ y ∷ a) (u ∷ v ∷ b) h k f g =
    cons (or_zero_r (high_half x u) ∙ near_lane x u f.0.fits g.0.fits)
    (cons (or_zero_l (high_half y v) ∙ near_lane y v f.1.0.fits g.1.0.fits) (alternate n a b (omega arith) (omega arith) f.1.1 g.1.1))

-- the indexes that put n lanes of even index after zeros, which follow all 2 n lanes
abbrev after_zeros : ℕ → List ℕ
after_zeros n = after (twice n) (indexes_from 2 0 n)

abbrev picked : ℕ → List ℕ → List ℕ
picked n u = pick_l 0 (u ++ replicate {A = ℕ} (twice n) 0) (after_zeros n)

abbrev pub Picked : ℕ → Type 0
Picked n = (u : List ℕ) → length u ≡ n → picked n (apart u) ≡ after 0 u

pub picked8 : Picked 8
picked8 u h = rw (← (is_eight u h).1) refl

pub picked16 : Picked 16
picked16 u h = rw (← (is_sixteen u h).1) refl

-- products of the bytes of n words, even and odd ones apart
module _ (n : ℕ) (is : Picked n) where
  abbrev joined : List ℕ → List ℕ → List ℕ
  joined even odd = zip2 bit_or (digits_l 256 (twice n) (number_l 65536 even)) (picked n (digits_l 256 (twice n) (number_l 65536 odd)))

  joined_are : (even odd : List ℕ) → length even ≡ n → length odd ≡ n → Each1 (Fits w8) even → Each1 (Fits w8) odd
      → joined even odd ≡ zip2 bit_or (apart even) (after 0 odd)
  joined_are even odd h k f g =
      ap (λ (l : List ℕ). zip2 bit_or l (picked n (digits_l 256 (twice n) (number_l 65536 odd)))) (apart_are n even h f)
      ∙ ap (λ (l : List ℕ). zip2 bit_or (apart even) (picked n l)) (apart_are n odd k g)
      ∙ ap (zip2 bit_or (apart even)) (is odd k)

  pub rejoined : (a b : List ℕ) → length a ≡ n + n → length b ≡ n + n → Each1 (Fits w8) a → Each1 (Fits w8) b → {even odd : List ℕ}
      → even ≡ zip2 high_half (zip2 bit_and (digits_l 65536 n (number_l 256 a)) (replicate n 255)) (zip2 bit_and (digits_l 65536 n (number_l 256 b)) (replicate n 255))
      → odd ≡ zip2 high_half (zip2 shr (digits_l 65536 n (number_l 256 a)) (replicate n 8)) (zip2 shr (digits_l 65536 n (number_l 256 b)) (replicate n 8))
      → joined even odd ≡ zip2 (channel_product 255) a b
  rejoined a b h k f g d e =
      let lows_fit = Each1-of_pairs low (λ x y p q. p) in
      let highs_fit = Each1-of_pairs high (λ x y p q. q) in
      rw (d, e, lows n a h f, lows n b k g, highs n a h f, highs n b k g)
      (joined_are _ _ (products_long low n a b h k) (products_long high n a b h k)
      (products_fit (of_pairs low a) (of_pairs low b) (lows_fit a f) (lows_fit b g))
      (products_fit (of_pairs high a) (of_pairs high b) (highs_fit a f) (highs_fit b g))
      ∙ alternate n a b h k f g)

-- the words of the last channels of pixels of two, each twice
abbrev last_words : ℕ → List ℕ → List ℕ
last_words n u = zip2 bit_or (of_pairs high u) (zip2 (shl (2 ^ 16)) (of_pairs high u) (replicate n 8))

last_bytes : (n : ℕ) (u : List ℕ) → length u ≡ n + n → Each1 (Fits w8) u → digits_l 256 (twice n) (number_l 65536 (last_words n u)) ≡ last_of_two u
last_bytes zero [] h f = refl
last_bytes zero (x ∷ u) h f = absurd (omega arith)
last_bytes (suc n) [] h f = absurd (omega arith)
last_bytes (suc n) (x ∷ []) h f = absurd (omega arith)
last_bytes (suc n) (x ∷ y ∷ u) h f =
    let q : y < 256 = f.1.0.fits in
    let z = number_l 65536 (last_words n u) in
    ap (λ (w : ℕ). digits_l 256 (suc (suc (twice n))) (w + 65536 * z)) (word_is y q)
    ∙ cons (first_byte y z q) (cons (second_byte y z q)
    (ap (digits_l 256 (twice n)) (other_bytes y z q) ∙ last_bytes n u (omega arith) f.1.1))

pub last_are : (u : List ℕ) → length u ≡ 32 → Each1 (Fits w8) u
    → let last = zip2 shr (digits_l 65536 16 (number_l 256 u)) (replicate 16 8) in
    digits_l 256 32 (number_l 65536 (zip2 bit_or last (zip2 (shl (2 ^ 16)) last (replicate 16 8)))) ≡ last_of_two u
last_are u h f =
    ap (λ (l : List ℕ). digits_l 256 32 (number_l 65536 (zip2 bit_or l (zip2 (shl (2 ^ 16)) l (replicate 16 8))))) (highs 16 u h f) ∙ last_bytes 16 u h f

-- a list of 32 as the tuple of its elements
pub is_thirty_two : {A : Type 0} (p : List A) → length p ≡ 32 → (w : (A × A × A × A × A × A × A × A × A × A × A × A × A × A × A × A) × (A × A × A × A × A × A × A × A × A × A × A × A × A × A × A × A)) × (w.0.0 ∷ w.0.1 ∷ w.0.2 ∷ w.0.3 ∷ w.0.4 ∷ w.0.5 ∷ w.0.6 ∷ w.0.7 ∷ w.0.8 ∷ w.0.9 ∷ w.0.10 ∷ w.0.11 ∷ w.0.12 ∷ w.0.13 ∷ w.0.14 ∷ w.0.15 ∷ w.1.0 ∷ w.1.1 ∷ w.1.2 ∷ w.1.3 ∷ w.1.4 ∷ w.1.5 ∷ w.1.6 ∷ w.1.7 ∷ w.1.8 ∷ w.1.9 ∷ w.1.10 ∷ w.1.11 ∷ w.1.12 ∷ w.1.13 ∷ w.1.14 ∷ w.1.15 ∷ [] ≡ p)
is_thirty_two p h =
    let a = is_sixteen (take 16 p) (first_half 16 p h) in
    let b = is_sixteen (drop 16 p) (second_half 16 p h) in
    ((a.0, b.0), both_halves 16 p a.1 b.1)

-- what is made of each of a list, in the place of another
pub all_made : (f : ℕ → ℕ) (n : ℕ) (ys xs : List ℕ) → length xs ≡ length ys → length xs ≤ n → over (λ y x. f y) (take n ys) xs ≡ map f ys
all_made f n [] [] h k = refl
all_made f n (y ∷ ys) [] h k = absurd (omega arith)
all_made f n [] (x ∷ xs) h k = absurd (omega arith)
all_made f zero (y ∷ ys) (x ∷ xs) h k = absurd (omega arith)
all_made f (suc n) (y ∷ ys) (x ∷ xs) h k = ap (λ (l : List ℕ). f y ∷ l) (all_made f n ys xs (omega arith) (omega arith))

-- all of a list in the place of another
pub all_put : (n : ℕ) (ys xs : List ℕ) → length xs ≡ length ys → length xs ≤ n → over (λ y x. y) (take n ys) xs ≡ ys
all_put n [] [] h k = refl
all_put n (y ∷ ys) [] h k = absurd (omega arith)
all_put n [] (x ∷ xs) h k = absurd (omega arith)
all_put zero (y ∷ ys) (x ∷ xs) h k = absurd (omega arith)
all_put (suc n) (y ∷ ys) (x ∷ xs) h k = ap (λ (l : List ℕ). y ∷ l) (all_put n ys xs (omega arith) (omega arith))

-- the last channels of eight pixels, each in two words, by the words of their channels
abbrev places : List ℕ
places = 0 ∷ 32 ∷ 0 ∷ 32 ∷ 4 ∷ 32 ∷ 4 ∷ 32 ∷ 8 ∷ 32 ∷ 8 ∷ 32 ∷ 12 ∷ 32 ∷ 12 ∷ 32 ∷ 16 ∷ 32 ∷ 16 ∷ 32 ∷ 20 ∷ 32 ∷ 20 ∷ 32 ∷ 24 ∷ 32 ∷ 24 ∷ 32 ∷ 28 ∷ 32 ∷ 28 ∷ 32 ∷ []

spread_fourths : (u : List ℕ) → length u ≡ 32
    → (length (fourths u) ≡ 8) × (length (doubled (fourths u)) ≡ 16) × (doubled (doubled (fourths u)) ≡ last_of_four u)
    × (pick_l 0 (spaced (fourths u) ++ replicate {A = ℕ} 32 0) places ≡ apart (doubled (fourths u)))
spread_fourths u h = rw (← (is_thirty_two u h).1) (refl, refl, refl, refl)

pub spread_are : (u : List ℕ) → length u ≡ 32 → Each1 (Fits w8) u
    → let bytes = digits_l 256 32 (number_l 4294967296 (zip2 shr (digits_l 4294967296 8 (number_l 256 u)) (replicate 8 24))) in
    let words = digits_l 65536 16 (number_l 256 (pick_l 0 (bytes ++ replicate {A = ℕ} 32 0) places)) in
    digits_l 256 32 (number_l 65536 (zip2 bit_or words (zip2 (shl (2 ^ 16)) words (replicate 16 8)))) ≡ last_of_four u
spread_are u h f =
    let all = spread_fourths u h in
    let v = fourths u in
    let fits = Each1-fourths u f in
    let twos = Each1-doubled v fits in
    let bytes = ap (λ (l : List ℕ). digits_l 256 32 (number_l 4294967296 l)) (fourths_are 8 u h f) ∙ spaced_are 8 v all.0 fits in
    let words = ap (λ (l : List ℕ). digits_l 65536 16 (number_l 256 (pick_l 0 (l ++ replicate {A = ℕ} 32 0) places))) bytes
    ∙ ap (λ (l : List ℕ). digits_l 65536 16 (number_l 256 l)) all.3 ∙ words_apart 16 (doubled v) all.1 twos in
    ap (λ (l : List ℕ). digits_l 256 32 (number_l 65536 (zip2 bit_or l (zip2 (shl (2 ^ 16)) l (replicate 16 8))))) words
    ∙ doubled_are 16 (doubled v) all.1 twos ∙ all.2

-- the last channels of eight pixels, each at the places of its pixel
pub alphas_are : {A : Type 0} (f : A → ℕ) (u : List A) (d0 d1 d2 d3 d4 d5 d6 d7 : A) {a b c d e g i j : ℕ} → length u ≡ 32
    → a ≡ f (get_or u 3 d0) → b ≡ f (get_or u 7 d1) → c ≡ f (get_or u 11 d2) → d ≡ f (get_or u 15 d3)
    → e ≡ f (get_or u 19 d4) → g ≡ f (get_or u 23 d5) → i ≡ f (get_or u 27 d6) → j ≡ f (get_or u 31 d7)
    → a ∷ a ∷ a ∷ a ∷ b ∷ b ∷ b ∷ b ∷ c ∷ c ∷ c ∷ c ∷ d ∷ d ∷ d ∷ d ∷ e ∷ e ∷ e ∷ e ∷ g ∷ g ∷ g ∷ g ∷ i ∷ i ∷ i ∷ i ∷ j ∷ j ∷ j ∷ j ∷ [] ≡ last_of_four (map f u)
alphas_are f u d0 d1 d2 d3 d4 d5 d6 d7 h a0 a1 a2 a3 a4 a5 a6 a7 = rw (a0, a1, a2, a3, a4, a5, a6, a7, ← (is_thirty_two u h).1) refl
