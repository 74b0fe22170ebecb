-- Vectors that are computed lane by lane from two others.
use Rattle.std.proofs.Common.{◌≡◌, ℕ, ◌+◌, ◌*◌, ◌/◌, ◌%◌, ◌^◌, ◌<◌, List, [], ◌∷◌, length, map, refl, ap, ◌∙◌, arith}
use Rattle.std.proofs.Common.{w8, Fits}
use mir.Syntax.{w16}
use Rattle.pix_chan.specs.Number.{saturating_sum}
use lib.Lanes.{zip2, Each1, sel_l, top}
use mir.Val.{hbits, bits}
use mir.Syntax.{Width}
use native.Mathlib.Nat.{mod-eq_of_lt}
use Rattle.std.proofs.Common.{Bool, cond, ltb, ◌-◌, min}
use Rattle.std.proofs.lemmas.Bool.Decides.{nat_tests}
use Rattle.std.proofs.lemmas.Simd.{tops_compared, zip2_of_maps, length-zip2, map-map}

-- the operations of a lane that has m values
abbrev pub add : ℕ → ℕ → ℕ → ℕ
add m x y = (x + y) % m

abbrev pub mul : ℕ → ℕ → ℕ → ℕ
mul m x y = (x * y) % m

abbrev pub shr : ℕ → ℕ → ℕ
shr x y = x / 2 ^ y

abbrev pub shl : ℕ → ℕ → ℕ → ℕ
shl m x y = x * 2 ^ y % m

abbrev pub same : ℕ → ℕ
same x = x

-- two vectors as the list of their pairs
abbrev pub pairs : List ℕ → List ℕ → List (ℕ × ℕ)
pairs = zip2 (λ x y. (x, y))

pub firsts : (a b : List ℕ) → length a ≡ length b → a ≡ map (λ v. v.0) (pairs a b)
firsts [] b l = refl
firsts (x ∷ a) [] l = absurd (omega arith)
firsts (x ∷ a) (y ∷ b) l = ap (λ r. x ∷ r) (firsts a b (omega arith))

pub seconds : (a b : List ℕ) → length a ≡ length b → b ≡ map (λ v. v.1) (pairs a b)
seconds [] [] l = refl
seconds [] (y ∷ b) l = absurd (omega arith)
seconds (x ∷ a) [] l = absurd (omega arith)
seconds (x ∷ a) (y ∷ b) l = ap (λ r. y ∷ r) (seconds a b (omega arith))

pub length-pairs : (a b : List ℕ) (n : ℕ) → length a ≡ n → length b ≡ n → length (pairs a b) ≡ n
length-pairs a b n l m = length-zip2 (λ x y. (x, y)) a b (omega arith) ∙ l

-- a function of each pair, known where P holds of both parts
pub map_pairs : (P Q : ℕ → Type 0) (f : ℕ × ℕ → ℕ) (g : ℕ → ℕ → ℕ) → ((x y : ℕ) → P x → Q y → f (x, y) ≡ g x y)
    → (a b : List ℕ) → length a ≡ length b → Each1 P a → Each1 Q b → map f (pairs a b) ≡ zip2 g a b
map_pairs P Q f g h [] b l p q = refl
map_pairs P Q f g h (x ∷ a) [] l p q = refl
map_pairs P Q f g h (x ∷ a) (y ∷ b) l p q = grind (arith, h x y p.0 q.0, map_pairs P Q f g h a b (omega arith) p.1 q.1)

-- the product of two vectors of bytes, as it is computed on wider lanes
abbrev pub wide : ℕ × ℕ → ℕ
wide v = (v.0 * v.1 % 2 ^ 16 + 128) % 2 ^ 16 * 257 % 2 ^ 32 / 2 ^ 16

mod-lt_two : (m : ℕ) → m % 2 ^ 32 < 2 ^ 32
mod-lt_two m = omega arith

high_fits : (m : ℕ) → m < 2 ^ 32 → Fits w16 (m / 2 ^ 16)
high_fits m h = record { fits = omega arith }

fits_wide : (v : ℕ × ℕ) → Fits w16 (wide v)
fits_wide v = high_fits _ (mod-lt_two ((v.0 * v.1 % 2 ^ 16 + 128) % 2 ^ 16 * 257))

pub Each1-wide : (vs : List (ℕ × ℕ)) → Each1 (Fits w16) (map wide vs)
Each1-wide [] = tt
Each1-wide (v ∷ vs) = (fits_wide v, Each1-wide vs)

sel_l-zip2 : (t : ℕ → ℕ → Bool) (xs ys : List ℕ) → sel_l (zip2 t xs ys) xs ys ≡ zip2 (λ x y. cond (t x y) x y) xs ys
sel_l-zip2 t [] ys = refl
sel_l-zip2 t (x ∷ xs) [] = refl
sel_l-zip2 t (x ∷ xs) (y ∷ ys) = ap (λ (l : List ℕ). cond (t x y) x y ∷ l) (sel_l-zip2 t xs ys)

-- the least of each two lanes
pub least : (w : Width) (xs ys : List ℕ)
    → sel_l (map (top (hbits w)) (zip2 (λ a b. cond (ltb a b) (2 ^ bits w - 1) 0) xs ys)) xs ys ≡ zip2 (λ x y. cond (ltb x y) x y) xs ys
least w xs ys = ap (λ ms. sel_l ms xs ys) (tops_compared w ltb xs ys) ∙ sel_l-zip2 ltb xs ys

pub Each1-sum : (a b : List ℕ) → Each1 (Fits w8) (zip2 (saturating_sum 255) a b)
Each1-sum [] b = tt
Each1-sum (x ∷ a) [] = tt
Each1-sum (x ∷ a) (y ∷ b) = (record { fits = omega arith }, Each1-sum a b)

least_byte : (x y : ℕ) → x < 256 → y < 256 → (x + cond (ltb y (255 - x)) y (255 - x)) % 256 ≡ saturating_sum 255 x y
least_byte x y a b =
    let e : cond (ltb y (255 - x)) y (255 - x) ≡ min y (255 - x) = grind (arith, nat_tests) in
    rw e (mod-eq_of_lt (omega arith) ∙ omega arith)

pub sum_bytes : (n : ℕ) (a b : List ℕ) → length a ≡ n → length b ≡ n → Each1 (Fits w8) a → Each1 (Fits w8) b
    → let r = map (λ x. 255 - x) a in
    zip2 (add 256) a (sel_l (map (top (hbits w8)) (zip2 (λ a b. cond (ltb a b) (2 ^ bits w8 - 1) 0) b r)) b r) ≡ zip2 (saturating_sum 255) a b
sum_bytes n a b la lb fa fb =
    let vs = pairs a b in
    let x = firsts a b (omega arith) in
    let y = seconds a b (omega arith) in
    let r = ap (map (λ x. 255 - x)) x ∙ map-map (λ x. 255 - x) (λ (v : ℕ × ℕ). v.0) vs in
    let k = least w8 b (map (λ x. 255 - x) a) ∙ zip2_of_maps (λ x y. cond (ltb x y) x y) _ _ vs y r in
    zip2_of_maps (add 256) _ _ vs x k
    ∙ map_pairs (Fits w8) (Fits w8) _ _ (λ i j h k. least_byte i j h.fits k.fits) a b (omega arith) fa fb

pub Fits-bytes : (a : List ℕ) → Each1 (λ x. x < 256) a → Each1 (Fits w8) a
Fits-bytes [] p = tt
Fits-bytes (x ∷ a) p = (record { fits = p.0 }, Fits-bytes a p.1)
