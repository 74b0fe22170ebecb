-- Lanes of 16 bits that are computed from two others.
use Rattle.std.proofs.Common.{◌≡◌, ℕ, ◌+◌, ◌-◌, ◌*◌, ◌/◌, ◌%◌, ◌^◌, ◌<◌, ◌≤◌, List, [], ◌∷◌, length, map, refl, ap, sym, subst, ◌∙◌, arith, replicate, Bool, true, false, cond, ltb, min, Fits}
use Rattle.std.specs.Prelude.{ℤ, pos, ◌-ℤ◌}
use mir.Syntax.{w16, w32}
use mir.Val.{of_z, to_z, SFits, hbits, bits}
use lib.Signed.{lt_z}
use lib.Lanes.{zip2, Each1, sel_l, top}
use native.Mathlib.Nat.{mod-eq_of_lt}
use Rattle.std.proofs.Math.Nat.{mul-le-mul}
use Rattle.std.proofs.lemmas.Bool.Decides.{nat_tests}
use Rattle.std.proofs.lemmas.Int.{ints, to_z-of_z}
use Rattle.std.proofs.lemmas.Simd.{zip2_of_maps, splat_is_map, map-map}
use Rattle.pix_chan.specs.Number.{saturating_sum}
use Rattle.pix_chan.specs.Product.{channel_product}
use Rattle.pix_chan.specs.Lanes.{high_sum, carried}
use Rattle.pix_chan.proofs.Lanes.{add, mul, shr, same, pairs, firsts, seconds, length-pairs, map_pairs, least}

below : (x y : ℕ) → x < 65536 → y < 65536 → x * y ≤ 4294836225
below x y a b = let k : x * y ≤ 65535 * 65535 = mul-le-mul {n₁ = x} {m₁ = y} {n₂ = 65535} {m₂ = 65535} (omega arith) (omega arith) in omega arith

-- p is x times y
halves_of : (p : ℕ) → p ≤ 4294836225 → (p % 2 ^ 32 / 2 ^ 16 + p % 2 ^ 16 / 2 ^ 15) % 2 ^ 16 ≡ (p + 2 ^ 15) / 2 ^ 16
halves_of p h = omega arith

rounds : (p : ℕ) → p ≤ 4294836225 → carried (p % 2 ^ 16) ((p + 2 ^ 15) / 2 ^ 16) ≡ (2 * p + 65535) / 131070
rounds p h = omega arith

-- a number less 2^15, and what a number leaves up to 2^15 - 1, as lanes of 32 bits compute them
abbrev lowered : ℕ → ℤ
lowered m = to_z w32 ((m + (2 ^ 32 - 32768)) % 2 ^ 32)

abbrev rest : ℕ → ℤ
rest h = to_z w32 ((32767 + (2 ^ 32 - h)) % 2 ^ 32)

lowered_is : (m : ℕ) → m < 65536 → lowered m ≡ pos m -ℤ pos 32768
lowered_is m a = grind (arith, ints)

rest_is : (h : ℕ) → h < 65536 → rest h ≡ pos 32767 -ℤ pos h
rest_is h a = grind (arith, ints)

pub lowered-fits : (m : ℕ) → m < 65536 → SFits w16 (lowered m)
lowered-fits m a = rw (lowered_is m a) (omega (arith, ints))

pub rest-fits : (h : ℕ) → h < 65536 → SFits w16 (rest h)
rest-fits h a = rw (rest_is h a) (omega (arith, ints))

exceeds : (m h : ℕ) → m < 65536 → h < 65536 → lt_z (pos 32767 -ℤ pos h) (pos m -ℤ pos 32768) ≡ ltb 65535 (m + h)
exceeds m h a b = grind (arith, ints)

-- whether m and h carry, as lanes compare it
abbrev told : ℕ → ℕ → Bool
told m h = lt_z (to_z w16 (of_z w16 (rest h))) (to_z w16 (of_z w16 (lowered m)))

told_is : (m h : ℕ) → m < 65536 → h < 65536 → told m h ≡ ltb 65535 (m + h)
told_is m h a b =
    let p = to_z-of_z w16 (lowered m) (lowered-fits m a) ∙ lowered_is m a in
    let q = to_z-of_z w16 (rest h) (rest-fits h b) ∙ rest_is h b in
    ap (λ z. lt_z (to_z w16 (of_z w16 (rest h))) z) p ∙ ap (λ z. lt_z z (pos m -ℤ pos 32768)) q ∙ exceeds m h a b

top_is : (t : Bool) → top 15 (cond t 65535 0) ≡ t
top_is true = refl
top_is false = refl

-- one lane of those that are raised
raised : (l h : ℕ) → l < 65536 → h < 65536
    → cond (top 15 (cond (told ((l + 32768) % 2 ^ 16) h) 65535 0)) ((h + 1) % 2 ^ 16) h ≡ carried l h
raised l h a b =
    let e = top_is (told ((l + 32768) % 2 ^ 16) h) ∙ told_is ((l + 32768) % 2 ^ 16) h (omega arith) b in
    rw e (grind (arith, nat_tests))

chosen : {V : Type 0} (t : V → Bool) (f g : V → ℕ) (vs : List V) → sel_l (map t vs) (map f vs) (map g vs) ≡ map (λ v. cond (t v) (f v) (g v)) vs
chosen t f g [] = refl
chosen t f g (v ∷ vs) = ap (λ (l : List ℕ). cond (t v) (f v) (g v) ∷ l) (chosen t f g vs)

-- a choice of two, each made lane by lane from vs
sel_l_of_maps : {V : Type 0} (t : V → Bool) (f g : V → ℕ) (vs : List V) {ts : List Bool} {xs ys : List ℕ} → ts ≡ map t vs → xs ≡ map f vs → ys ≡ map g vs
    → sel_l ts xs ys ≡ map (λ v. cond (t v) (f v) (g v)) vs
sel_l_of_maps t f g vs p q r = rw (p, q, r) (chosen t f g vs)

-- the high half of a product, as lanes of 32 bits compute it
abbrev upper : ℕ × ℕ → ℕ
upper v = v.0 * v.1 % 2 ^ 32 / 2 ^ 16

mod-lt : (m : ℕ) → m % 2 ^ 32 < 2 ^ 32
mod-lt m = omega arith

high-fits : (m : ℕ) → m < 2 ^ 32 → Fits w16 (m / 2 ^ 16)
high-fits m h = record { fits = omega arith }

pub Each1-upper : (vs : List (ℕ × ℕ)) → Each1 (Fits w16) (map upper vs)
Each1-upper [] = tt
Each1-upper (v ∷ vs) = (high-fits _ (mod-lt (v.0 * v.1)), Each1-upper vs)

high_lane : (x y : ℕ) → x < 65536 → y < 65536 → (x * y % 2 ^ 32 / 2 ^ 16 + x * y % 2 ^ 16 / 2 ^ 15) % 2 ^ 16 ≡ high_sum x y
high_lane x y a b = halves_of (x * y) (below x y a b)

-- the lanes of `high`
module _ (a b : List ℕ) (la : length a ≡ 16) (lb : length b ≡ 16) where
  abbrev tops : List ℕ
  tops = zip2 shr (zip2 (mul (2 ^ 32)) (map same a) (map same b)) (replicate 16 16)

  pub tops_are : tops ≡ map upper (pairs a b)
  tops_are =
      let vs = pairs a b in
      let x = ap (map same) (firsts a b (la ∙ sym lb)) ∙ map-map same (λ (v : ℕ × ℕ). v.0) vs in
      let y = ap (map same) (seconds a b (la ∙ sym lb)) ∙ map-map same (λ (v : ℕ × ℕ). v.1) vs in
      let t = zip2_of_maps (mul (2 ^ 32)) _ _ vs x y in
      zip2_of_maps shr _ _ vs t (splat_is_map vs 16 16 (length-pairs a b 16 la lb))

  pub high_are : Each1 (Fits w16) a → Each1 (Fits w16) b
      → zip2 (add (2 ^ 16)) (map same tops) (zip2 shr (zip2 (mul (2 ^ 16)) a b) (replicate 16 15)) ≡ zip2 high_sum a b
  high_are fa fb =
      let vs = pairs a b in
      let x = ap (map same) tops_are ∙ map-map same upper vs in
      let p = zip2_of_maps (mul (2 ^ 16)) _ _ vs (firsts a b (la ∙ sym lb)) (seconds a b (la ∙ sym lb)) in
      let y = zip2_of_maps shr _ _ vs p (splat_is_map vs 16 15 (length-pairs a b 16 la lb)) in
      zip2_of_maps (add (2 ^ 16)) _ _ vs x y
      ∙ map_pairs (Fits w16) (Fits w16) _ _ (λ i j u k. high_lane i j u.fits k.fits) a b (la ∙ sym lb) fa fb

abbrev pub sum_of : ℕ × ℕ → ℕ
sum_of v = ((v.0 + 32768) % 2 ^ 16 + (2 ^ 32 - 32768)) % 2 ^ 32

abbrev pub rest_of : ℕ × ℕ → ℕ
rest_of v = (32767 + (2 ^ 32 - v.1)) % 2 ^ 32

abbrev narrowed : ℕ → ℕ
narrowed x = of_z w16 (to_z w32 x)

-- a lane of 32 bits whose signed number fits 16
abbrev pub InRange : ℕ → Type 0
InRange n = SFits w16 (to_z w32 n)

mod16-lt : (m : ℕ) → m % 2 ^ 16 < 65536
mod16-lt m = omega arith

Each1-sums : (vs : List (ℕ × ℕ)) → Each1 InRange (map sum_of vs)
Each1-sums [] = tt
Each1-sums (v ∷ vs) = (lowered-fits _ (mod16-lt (v.0 + 32768)), Each1-sums vs)

Each1-rests : (low high : List ℕ) → Each1 (Fits w16) high → Each1 InRange (map rest_of (pairs low high))
Each1-rests [] high f = tt
Each1-rests (x ∷ low) [] f = tt
Each1-rests (x ∷ low) (y ∷ high) f = (rest-fits y f.0.fits, Each1-rests low high f.1)

-- the lanes of `raise`
module _ (low high : List ℕ) (la : length low ≡ 16) (lb : length high ≡ 16) where
  abbrev sums : List ℕ
  sums = zip2 (λ x y. (x + (2 ^ 32 - y)) % 2 ^ 32) (map same (zip2 (add (2 ^ 16)) low (replicate 16 32768))) (replicate 16 32768)

  abbrev rests : List ℕ
  rests = zip2 (λ x y. (x + (2 ^ 32 - y)) % 2 ^ 32) (replicate 16 32767) (map same high)

  sums_are : sums ≡ map sum_of (pairs low high)
  sums_are =
      let vs = pairs low high in
      let l = length-pairs low high 16 la lb in
      let x = zip2_of_maps (add (2 ^ 16)) _ _ vs (firsts low high (la ∙ sym lb)) (splat_is_map vs 16 32768 l) in
      let m = ap (map same) x ∙ map-map same _ vs in
      zip2_of_maps (λ x y. (x + (2 ^ 32 - y)) % 2 ^ 32) _ _ vs m (splat_is_map vs 16 32768 l)

  rests_are : rests ≡ map rest_of (pairs low high)
  rests_are =
      let vs = pairs low high in
      let l = length-pairs low high 16 la lb in
      let y = ap (map same) (seconds low high (la ∙ sym lb)) ∙ map-map same (λ (v : ℕ × ℕ). v.1) vs in
      zip2_of_maps (λ x y. (x + (2 ^ 32 - y)) % 2 ^ 32) _ _ vs (splat_is_map vs 16 32767 l) y

  pub sums_in_range : Each1 InRange sums
  sums_in_range = subst (Each1 InRange) (sym sums_are) (Each1-sums (pairs low high))

  pub rests_in_range : Each1 (Fits w16) high → Each1 InRange rests
  rests_in_range f = subst (Each1 InRange) (sym rests_are) (Each1-rests low high f)

  pub raise_are : Each1 (Fits w16) low → Each1 (Fits w16) high
      → sel_l (map (top 15) (zip2 (λ x y. cond (lt_z (to_z w16 x) (to_z w16 y)) 65535 0) (map narrowed rests) (map narrowed sums)))
      (zip2 (add (2 ^ 16)) high (replicate 16 1)) high ≡ zip2 carried low high
  raise_are fl fh =
      let vs = pairs low high in
      let l = length-pairs low high 16 la lb in
      let h = seconds low high (la ∙ sym lb) in
      let x = ap (map narrowed) rests_are ∙ map-map narrowed rest_of vs in
      let y = ap (map narrowed) sums_are ∙ map-map narrowed sum_of vs in
      let t = zip2_of_maps (λ x y. cond (lt_z (to_z w16 x) (to_z w16 y)) 65535 0) _ _ vs x y in
      let tops = ap (map (top 15)) t ∙ map-map (top 15) _ vs in
      sel_l_of_maps _ _ _ vs tops (zip2_of_maps (add (2 ^ 16)) _ _ vs h (splat_is_map vs 16 1 l)) h
      ∙ map_pairs (Fits w16) (Fits w16) _ _ (λ i j u k. raised i j u.fits k.fits) low high (la ∙ sym lb) fl fh

product_lane : (x y : ℕ) → x < 65536 → y < 65536 → carried (x * y % 2 ^ 16) (high_sum x y) ≡ channel_product 65535 x y
unfolding channel_product
product_lane x y a b = rounds (x * y) (below x y a b)

-- the lanes of `product_lanes`
pub products_are : (a b : List ℕ) → Each1 (Fits w16) a → Each1 (Fits w16) b
    → zip2 carried (zip2 (mul (2 ^ 16)) a b) (zip2 high_sum a b) ≡ zip2 (channel_product 65535) a b
products_are [] b f g = refl
products_are (x ∷ a) [] f g = refl
products_are (x ∷ a) (y ∷ b) f g = rw (product_lane x y f.0.fits g.0.fits, products_are a b f.1 g.1) refl

least_word : (x y : ℕ) → x < 65536 → y < 65536 → (x + cond (ltb y (65535 - x)) y (65535 - x)) % 65536 ≡ saturating_sum 65535 x y
least_word x y a b =
    let e : cond (ltb y (65535 - x)) y (65535 - x) ≡ min y (65535 - x) = grind (arith, nat_tests) in
    rw e (mod-eq_of_lt (omega arith) ∙ omega arith)

-- the lanes of `sum_lanes`
pub sums_of_words : (a b : List ℕ) → length a ≡ 16 → length b ≡ 16 → Each1 (Fits w16) a → Each1 (Fits w16) b
    → let r = map (λ x. 65535 - x) a in
    zip2 (add 65536) a (sel_l (map (top (hbits w16)) (zip2 (λ a b. cond (ltb a b) (2 ^ bits w16 - 1) 0) b r)) b r) ≡ zip2 (saturating_sum 65535) a b
sums_of_words a b la lb fa fb =
    let vs = pairs a b in
    let x = firsts a b (omega arith) in
    let y = seconds a b (omega arith) in
    let r = ap (map (λ x. 65535 - x)) x ∙ map-map (λ x. 65535 - x) (λ (v : ℕ × ℕ). v.0) vs in
    let k = least w16 b (map (λ x. 65535 - x) a) ∙ zip2_of_maps (λ x y. cond (ltb x y) x y) _ _ vs y r in
    zip2_of_maps (add 65536) _ _ vs x k
    ∙ map_pairs (Fits w16) (Fits w16) _ _ (λ i j h k. least_word i j h.fits k.fits) a b (omega arith) fa fb
