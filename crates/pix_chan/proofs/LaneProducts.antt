-- Products of lanes of sixteen bits, by the halves of what the lanes multiply to.
use Rattle.std.proofs.Common.{◌≡◌, ℕ, zero, suc, ◌+◌, ◌*◌, ◌/◌, ◌%◌, ◌^◌, ◌<◌, ◌≤◌, List, [], ◌∷◌, length, map, refl, ap, ◌-◌, sym, ◌∙◌, arith, inl, inr, replicate, Fits, Bool, cond, ltb}
use mir.Syntax.{w16}
use mir.Val.{hbits, bits}
use lib.Lanes.{zip2, Each1, sel_l, top}
use Rattle.std.proofs.Math.Nat.{mul-le-mul}
use Rattle.std.proofs.lemmas.Bool.{cases_lt}
use Rattle.std.proofs.lemmas.List.{length-map}
use Rattle.std.proofs.lemmas.Bool.Decides.{nat_tests}
use Rattle.std.proofs.lemmas.Simd.{tops_compared, zip2_of_maps, splat_is_map, map-map}
use Rattle.pix_chan.specs.Product.{channel_product}
use Rattle.pix_chan.proofs.Lanes.{add, mul, shr, same, pairs, firsts, seconds, length-pairs, map_pairs}

-- of a product p: the upper half of p + 32768, its lower half, and the sum of both without the
-- carry
abbrev upper : ℕ → ℕ
upper p = (p / 65536 + p % 2 ^ 16 / 2 ^ 15) % 2 ^ 16

abbrev lower : ℕ → ℕ
lower p = (p % 2 ^ 16 + 32768) % 2 ^ 16

abbrev both : ℕ → ℕ
both p = (lower p + upper p) % 2 ^ 16

-- a one where a test holds
abbrev pub one_if : Bool → ℕ
one_if t = cond t 1 0

abbrev rounded : ℕ → ℕ
rounded p = (upper p + one_if (ltb (both p) (lower p))) % 2 ^ 16

halves : (p h l : ℕ) → p ≡ 65536 * h + l → l < 65536 → h < 65535 → (p / 65536 ≡ h) × (p % 2 ^ 16 ≡ l)
halves p h l e a b = (omega (arith, e, a, b), omega (arith, e, a, b))

up_is : (h l : ℕ) → h < 65535 → l < 65536 → (h + l / 2 ^ 15) % 2 ^ 16 ≡ (65536 * h + l + 32768) / 65536
up_is h l a b = omega (arith, a, b)

rounds_to : (p h l u : ℕ) → p ≤ 4294836225 → p ≡ 65536 * h + l → l < 65536 → h < 65535 → u ≡ (p + 32768) / 65536
    → (u + one_if (ltb (((l + 32768) % 2 ^ 16 + u) % 2 ^ 16) ((l + 32768) % 2 ^ 16))) % 2 ^ 16 ≡ (2 * p + 65535) / 131070
rounds_to p h l u most e a b is =
    let r : ℕ = (l + 32768) % 2 ^ 16 in
    let s : ℕ = (r + u) % 2 ^ 16 in
    elim (cases_lt s r) [
      | inl lt ↦
          let c : one_if (ltb s r) ≡ 1 = grind (arith, nat_tests, lt) in
          rw c (omega (arith, most, e, a, b, is, lt))
      | inr past ↦
          let c : one_if (ltb s r) ≡ 0 = grind (arith, nat_tests, past) in
          rw c (omega (arith, most, e, a, b, is, past))
    ]

rounds : (p : ℕ) → p ≤ 4294836225 → rounded p ≡ (2 * p + 65535) / 131070
rounds p most =
    let h : ℕ = p / 65536 in
    let l : ℕ = p % 65536 in
    let e : p ≡ 65536 * h + l = omega arith in
    let a : l < 65536 = omega arith in
    let b : h < 65535 = omega (arith, most) in
    let parts = halves p h l e a b in
    rw (parts.0, parts.1) (rounds_to p h l ((h + l / 2 ^ 15) % 2 ^ 16) most e a b (up_is h l b a ∙ ap (λ (n : ℕ). (n + 32768) / 65536) (sym e)))

below : (x y : ℕ) → x < 65536 → y < 65536 → x * y ≤ 4294836225
below x y a b = let k : x * y ≤ 65535 * 65535 = mul-le-mul {n₁ = x} {m₁ = y} {n₂ = 65535} {m₂ = 65535} (omega arith) (omega arith) in omega arith

high_is : (x y : ℕ) → x < 65536 → y < 65536 → x * y % 2 ^ 32 / 2 ^ 16 ≡ x * y / 65536
high_is x y a b = let most = below x y a b in omega (arith, most)

lane_is : (x y : ℕ) → x < 65536 → y < 65536 → rounded (x * y) ≡ channel_product 65535 x y
unfolding channel_product
lane_is x y a b = rounds (x * y) (below x y a b)

abbrev pub ones : ℕ → List ℕ
ones n = replicate n 1

abbrev pub zeros : ℕ → List ℕ
zeros n = replicate n 0

-- a one where a test of two lanes holds
pub chosen : (t : ℕ → ℕ → Bool) (n : ℕ) (xs ys : List ℕ) → length xs ≡ n → sel_l (zip2 t xs ys) (ones n) (zeros n) ≡ zip2 (λ x y. one_if (t x y)) xs ys
chosen t zero [] ys l = refl
chosen t zero (x ∷ xs) ys l = absurd (omega (arith, l))
chosen t (suc n) [] ys l = refl
chosen t (suc n) (x ∷ xs) [] l = refl
chosen t (suc n) (x ∷ xs) (y ∷ ys) l = ap (λ (r : List ℕ). one_if (t x y) ∷ r) (chosen t n xs ys (omega (arith, l)))

upper_fits : (m : ℕ) → Fits w16 (m % 2 ^ 32 / 2 ^ 16)
upper_fits m = record { fits = omega arith }

pub Each1-halves : (vs : List (ℕ × ℕ)) → Each1 (Fits w16) (map (λ v. v.0 * v.1 % 2 ^ 32 / 2 ^ 16) vs)
Each1-halves [] = tt
Each1-halves (v ∷ vs) = (upper_fits (v.0 * v.1), Each1-halves vs)

module _ (a b : List ℕ) (la : length a ≡ 16) (lb : length b ≡ 16) where
  abbrev high_halves : List ℕ
  high_halves = zip2 shr (zip2 (mul (2 ^ 32)) (map same a) (map same b)) (replicate 16 16)

  abbrev lows : List ℕ
  lows = zip2 (mul (2 ^ 16)) a b

  abbrev highs : List ℕ
  highs = zip2 (λ x y. x * y / 65536) a b

  abbrev uppers : List ℕ
  uppers = zip2 (add (2 ^ 16)) highs (zip2 shr lows (replicate 16 15))

  abbrev lowers : List ℕ
  lowers = zip2 (add (2 ^ 16)) lows (replicate 16 32768)

  abbrev sums : List ℕ
  sums = zip2 (add (2 ^ 16)) lowers uppers

  abbrev carries : List ℕ
  carries = sel_l (map (top (hbits w16)) (zip2 (λ x y. cond (ltb x y) (2 ^ bits w16 - 1) 0) sums lowers)) (ones 16) (zeros 16)

  one : a ≡ map (λ v. v.0) (pairs a b)
  one = firsts a b (la ∙ sym lb)

  two : b ≡ map (λ v. v.1) (pairs a b)
  two = seconds a b (la ∙ sym lb)

  long : length (pairs a b) ≡ 16
  long = length-pairs a b 16 la lb

  pub high_halves_are : high_halves ≡ map (λ v. v.0 * v.1 % 2 ^ 32 / 2 ^ 16) (pairs a b)
  high_halves_are =
      let vs = pairs a b in
      let x = ap (map same) one ∙ map-map same (λ (v : ℕ × ℕ). v.0) vs in
      let y = ap (map same) two ∙ map-map same (λ (v : ℕ × ℕ). v.1) vs in
      zip2_of_maps shr _ _ vs (zip2_of_maps (mul (2 ^ 32)) _ _ vs x y) (splat_is_map vs 16 16 long)

  pub highs_are : Each1 (Fits w16) a → Each1 (Fits w16) b → map same high_halves ≡ highs
  highs_are fa fb =
      ap (map same) high_halves_are ∙ map-map same (λ (v : ℕ × ℕ). v.0 * v.1 % 2 ^ 32 / 2 ^ 16) (pairs a b)
      ∙ map_pairs (Fits w16) (Fits w16) (λ v. v.0 * v.1 % 2 ^ 32 / 2 ^ 16) (λ x y. x * y / 65536) (λ i j u k. high_is i j u.fits k.fits) a b (la ∙ sym lb) fa fb

  lows_are : lows ≡ map (λ v. v.0 * v.1 % 2 ^ 16) (pairs a b)
  lows_are = zip2_of_maps (mul (2 ^ 16)) _ _ (pairs a b) one two

  uppers_are : uppers ≡ map (λ v. upper (v.0 * v.1)) (pairs a b)
  uppers_are =
      let vs = pairs a b in
      zip2_of_maps (add (2 ^ 16)) _ _ vs (zip2_of_maps (λ x y. x * y / 65536) _ _ vs one two) (zip2_of_maps shr _ _ vs lows_are (splat_is_map vs 16 15 long))

  lowers_are : lowers ≡ map (λ v. lower (v.0 * v.1)) (pairs a b)
  lowers_are = zip2_of_maps (add (2 ^ 16)) _ _ (pairs a b) lows_are (splat_is_map (pairs a b) 16 32768 long)

  sums_are : sums ≡ map (λ v. both (v.0 * v.1)) (pairs a b)
  sums_are = zip2_of_maps (add (2 ^ 16)) _ _ (pairs a b) lowers_are uppers_are

  carries_are : carries ≡ map (λ v. one_if (ltb (both (v.0 * v.1)) (lower (v.0 * v.1)))) (pairs a b)
  carries_are =
      ap (λ ms. sel_l ms (ones 16) (zeros 16)) (tops_compared w16 ltb sums lowers)
      ∙ chosen ltb 16 sums lowers (ap length sums_are ∙ length-map (pairs a b) (λ (v : ℕ × ℕ). both (v.0 * v.1)) ∙ long)
      ∙ zip2_of_maps (λ x y. one_if (ltb x y)) _ _ (pairs a b) sums_are lowers_are

  pub products_are : Each1 (Fits w16) a → Each1 (Fits w16) b → zip2 (add (2 ^ 16)) uppers carries ≡ zip2 (channel_product 65535) a b
  products_are fa fb =
      zip2_of_maps (add (2 ^ 16)) _ _ (pairs a b) uppers_are carries_are
      ∙ map_pairs (Fits w16) (Fits w16) (λ v. rounded (v.0 * v.1)) (channel_product 65535) (λ i j u k. lane_is i j u.fits k.fits) a b (la ∙ sym lb) fa fb
