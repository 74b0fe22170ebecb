-- Four pixels of four channels of sixteen bits divided by their alphas, on lanes.
use Rattle.std.proofs.Common.{◌≡◌, ℕ, zero, suc, ◌≤◌, ◌<◌, ◌+◌, ◌-◌, ◌*◌, ◌/◌, ◌%◌, ◌^◌, List, [], ◌∷◌, ◌++◌, length, map, get_or, refl, sym, ap, ◌∙◌, arith, inl, inr, replicate, Fits, cond, ltb, leb, min, max, bit_or, bit_and}
use mir.Syntax.{w16, w64}
use mir.Val.{hbits, bits}
use lib.Lanes.{zip2, Each1, number_l, digits_l, sel_l, top, pick_l}
use Rattle.std.proofs.lemmas.Bool.{cases_lt}
use Rattle.std.proofs.lemmas.Bool.Decides.{nat_tests}
use Rattle.std.proofs.lemmas.List.{length-map}
use Rattle.std.proofs.lemmas.Simd.{tops_compared, zip2_of_maps, map-map, length-zip2, get_or-zip2}
use Rattle.std.proofs.Math.Nat.{mul-le-mul, div-add-mod', mod-lt}
use Rattle.std.proofs.lemmas.Nat.{mul-le, and_mask}
use Rattle.pix_chan.specs.Product.{channel_quotient}
use Rattle.pix_chan.specs.Planes.{last_of_four, with_alphas}
use Rattle.pix_chan.specs.LaneQuotients.{alphas_in, for_each_channel, reciprocal_of, whole_reciprocal_of, parts, IsReciprocal}
use Rattle.pix_chan.proofs.Lanes.{add, mul, shr, pairs, firsts, seconds, length-pairs, map_pairs}
use Rattle.pix_chan.proofs.LaneProducts.{one_if, ones, zeros, chosen}
use Rattle.pix_chan.proofs.LaneTests.{lane_is}
use Rattle.pix_chan.proofs.Planes.{cons}
use Rattle.pix_chan.proofs.Reciprocals16.{entry_is, entry_fits, by_alpha, reciprocal_fits, cut}
use Rattle.pix_chan.proofs.Sixteen.{is_sixteen}

-- ---- the alphas of sixteen channels
pub alphas_picked : (u : List ℕ) → length u ≡ 16 → pick_l 0 (u ++ u) (for_each_channel 3 7 11 15) ≡ alphas_in u
alphas_picked u h = rw (← (is_sixteen u h).1) refl

pub alphas_last : (u : List ℕ) → length u ≡ 16 → alphas_in u ≡ last_of_four u
alphas_last u h = rw (← (is_sixteen u h).1) refl

-- ---- numbers in four parts
bytes_again : (n x : ℕ) → x < 256 ^ n → number_l 256 (digits_l 256 n x) ≡ x
bytes_again zero x h = omega (arith, h)
bytes_again (suc n) x h =
    let k : ℕ = 256 ^ n in
    let p : 256 ^ suc n ≡ 256 * k = grind arith in
    let whole : x % 256 + 256 * (x / 256) ≡ x = omega arith in
    ap (λ (r : ℕ). x % 256 + 256 * r) (bytes_again n (x / 256) (omega (arith, h, p))) ∙ whole

four_below : (a b c d : ℕ) → a < 2 ^ 64 → b < 2 ^ 64 → c < 2 ^ 64 → d < 2 ^ 64 → number_l (2 ^ 64) (a ∷ b ∷ c ∷ d ∷ []) < 256 ^ 32
four_below a b c d ha hb hc hd = omega (arith, ha, hb, hc, hd)

pub words_again : (ws : List ℕ) → length ws ≡ 4 → Each1 (Fits w64) ws → number_l 256 (digits_l 256 32 (number_l (2 ^ 64) ws)) ≡ number_l (2 ^ 64) ws
words_again [] l f = absurd (omega (arith, l))
words_again (a ∷ []) l f = absurd (omega (arith, l))
words_again (a ∷ b ∷ []) l f = absurd (omega (arith, l))
words_again (a ∷ b ∷ c ∷ []) l f = absurd (omega (arith, l))
words_again (a ∷ b ∷ c ∷ d ∷ []) l f =
    bytes_again 32 (number_l (2 ^ 64) (a ∷ b ∷ c ∷ d ∷ [])) (four_below a b c d f.0.fits f.1.0.fits f.1.1.0.fits f.1.1.1.0.fits)
words_again (a ∷ b ∷ c ∷ d ∷ e ∷ ws) l f = absurd (omega (arith, l))

first_part : (x r : ℕ) → (x + 2 ^ 64 * r) % 65536 ≡ x % 65536
first_part x r = omega arith

second_part : (x r : ℕ) → (x + 2 ^ 64 * r) / 65536 % 65536 ≡ x / 65536 % 65536
second_part x r = omega arith

third_part : (x r : ℕ) → (x + 2 ^ 64 * r) / 65536 / 65536 % 65536 ≡ x / 65536 / 65536 % 65536
third_part x r = omega arith

last_part : (x r : ℕ) → (x + 2 ^ 64 * r) / 65536 / 65536 / 65536 % 65536 ≡ x / 65536 / 65536 / 65536 % 65536
last_part x r = omega arith

other_parts : (x r : ℕ) → x < 2 ^ 64 → (x + 2 ^ 64 * r) / 65536 / 65536 / 65536 / 65536 ≡ r
other_parts x r h = omega (arith, h)

parts_of : (n x r : ℕ) (xs : List ℕ) → x < 2 ^ 64 → digits_l 65536 n r ≡ xs → digits_l 65536 (suc (suc (suc (suc n)))) (x + 2 ^ 64 * r) ≡ parts x ++ xs
parts_of n x r xs h e =
    cons (first_part x r) (cons (second_part x r) (cons (third_part x r) (cons (last_part x r) (ap (digits_l 65536 n) (other_parts x r h) ∙ e))))

pub parts_are : (a b c d : ℕ) → a < 2 ^ 64 → b < 2 ^ 64 → c < 2 ^ 64 → d < 2 ^ 64
    → digits_l 65536 16 (number_l (2 ^ 64) (a ∷ b ∷ c ∷ d ∷ [])) ≡ parts a ++ (parts b ++ (parts c ++ parts d))
parts_are a b c d ha hb hc hd =
    parts_of 12 a (number_l (2 ^ 64) (b ∷ c ∷ d ∷ [])) _ ha (parts_of 8 b (number_l (2 ^ 64) (c ∷ d ∷ [])) _ hb (parts_of 4 c (number_l (2 ^ 64) (d ∷ [])) _ hc (parts_of 0 d 0 [] hd refl)))

-- ---- products with numbers of three parts
carried : (p q r z : ℕ) → p < 2 ^ 32 → q < 2 ^ 32 → z ≡ p + 65536 * q + 2 ^ 32 * r
    → let lower = q % 2 ^ 16 in let sum = (lower + p / 65536) % 2 ^ 16 in
    ((r % 2 ^ 16 + q / 65536) % 2 ^ 16 + one_if (ltb sum lower)) % 2 ^ 16 ≡ z / 2 ^ 32 % 65536
carried p q r z hp hq e =
    let lower : ℕ = q % 2 ^ 16 in
    let sum : ℕ = (lower + p / 65536) % 2 ^ 16 in
    elim (cases_lt sum lower) [
      | inl lt ↦
          let c : one_if (ltb sum lower) ≡ 1 = grind (arith, nat_tests, lt) in
          rw c (omega (arith, hp, hq, e, lt))
      | inr past ↦
          let c : one_if (ltb sum lower) ≡ 0 = grind (arith, nat_tests, past) in
          rw c (omega (arith, hp, hq, e, past))
    ]

small : (x y : ℕ) → x < 65536 → y < 65536 → x * y < 2 ^ 32
small x y a b = let k : x * y ≤ 65535 * 65535 = mul-le-mul {n₁ = x} {m₁ = y} {n₂ = 65535} {m₂ = 65535} (omega arith) (omega arith) in omega arith

split : (x u v w : ℕ) → x * (u + 65536 * v + 2 ^ 32 * w) ≡ x * u + 65536 * (x * v) + 2 ^ 32 * (x * w)
split x u v w = grind arith

abbrev pub scaled_lane : ℕ → ℕ → ℕ
scaled_lane x y =
    let lower = x * (y / 65536 % 65536) % 2 ^ 16 in
    ((x * (y / 65536 / 65536 % 65536) % 2 ^ 16 + x * (y / 65536 % 65536) / 65536) % 2 ^ 16 + one_if (ltb ((lower + x * (y % 65536) / 65536) % 2 ^ 16) lower)) % 2 ^ 16

scaled_is : (x y : ℕ) → x < 65536 → y < 2 ^ 48 → scaled_lane x y ≡ x * y / 2 ^ 32 % 65536
scaled_is x y hx hy =
    let u : ℕ = y % 65536 in
    let v : ℕ = y / 65536 % 65536 in
    let w : ℕ = y / 65536 / 65536 % 65536 in
    let whole : y ≡ u + 65536 * v + 2 ^ 32 * w = omega (arith, hy) in
    let z : x * y ≡ x * u + 65536 * (x * v) + 2 ^ 32 * (x * w) = ap (λ (n : ℕ). x * n) whole ∙ split x u v w in
    carried (x * u) (x * v) (x * w) (x * y) (small x u hx (omega arith)) (small x v hx (omega arith)) z

module _ (xs ys : List ℕ) (lx : length xs ≡ 16) (ly : length ys ≡ 16) where
  abbrev low : List ℕ
  low = map (λ y. y % 65536) ys

  abbrev middle : List ℕ
  middle = map (λ y. y / 65536 % 65536) ys

  abbrev high : List ℕ
  high = map (λ y. y / 65536 / 65536 % 65536) ys

  abbrev lowers : List ℕ
  lowers = zip2 (mul (2 ^ 16)) xs middle

  abbrev sums : List ℕ
  sums = zip2 (add (2 ^ 16)) lowers (zip2 (λ x y. x * y / 65536) xs low)

  abbrev carries : List ℕ
  carries = sel_l (map (top (hbits w16)) (zip2 (λ x y. cond (ltb x y) (2 ^ bits w16 - 1) 0) sums lowers)) (ones 16) (zeros 16)

  part_is : (f : ℕ → ℕ) → map f ys ≡ map (λ v. f v.1) (pairs xs ys)
  part_is f = ap (map f) (seconds xs ys (lx ∙ sym ly)) ∙ map-map f (λ (v : ℕ × ℕ). v.1) (pairs xs ys)

  lane : xs ≡ map (λ v. v.0) (pairs xs ys)
  lane = firsts xs ys (lx ∙ sym ly)

  lowers_are : lowers ≡ map (λ v. v.0 * (v.1 / 65536 % 65536) % 2 ^ 16) (pairs xs ys)
  lowers_are = zip2_of_maps (mul (2 ^ 16)) _ _ (pairs xs ys) lane (part_is (λ y. y / 65536 % 65536))

  sums_are : sums ≡ map (λ v. (v.0 * (v.1 / 65536 % 65536) % 2 ^ 16 + v.0 * (v.1 % 65536) / 65536) % 2 ^ 16) (pairs xs ys)
  sums_are = zip2_of_maps (add (2 ^ 16)) _ _ (pairs xs ys) lowers_are (zip2_of_maps (λ x y. x * y / 65536) _ _ (pairs xs ys) lane (part_is (λ y. y % 65536)))

  carries_are : carries ≡ map (λ v. one_if (ltb ((v.0 * (v.1 / 65536 % 65536) % 2 ^ 16 + v.0 * (v.1 % 65536) / 65536) % 2 ^ 16) (v.0 * (v.1 / 65536 % 65536) % 2 ^ 16))) (pairs xs ys)
  carries_are =
      ap (λ ms. sel_l ms (ones 16) (zeros 16)) (tops_compared w16 ltb sums lowers)
      ∙ chosen ltb 16 sums lowers (ap length sums_are ∙ length-map (pairs xs ys) (λ (v : ℕ × ℕ). (v.0 * (v.1 / 65536 % 65536) % 2 ^ 16 + v.0 * (v.1 % 65536) / 65536) % 2 ^ 16) ∙ length-pairs xs ys 16 lx ly)
      ∙ zip2_of_maps (λ x y. one_if (ltb x y)) _ _ (pairs xs ys) sums_are lowers_are

  pub scaled_are : Each1 (Fits w16) xs → Each1 (λ y. y < 2 ^ 48) ys
      → zip2 (add (2 ^ 16)) (zip2 (add (2 ^ 16)) (zip2 (mul (2 ^ 16)) xs high) (zip2 (λ x y. x * y / 65536) xs middle)) carries ≡ zip2 (λ x y. x * y / 2 ^ 32 % 65536) xs ys
  scaled_are fx fy =
      let tops = zip2_of_maps (mul (2 ^ 16)) _ _ (pairs xs ys) lane (part_is (λ y. y / 65536 / 65536 % 65536)) in
      let whole = zip2_of_maps (add (2 ^ 16)) _ _ (pairs xs ys) tops (zip2_of_maps (λ x y. x * y / 65536) _ _ (pairs xs ys) lane (part_is (λ y. y / 65536 % 65536))) in
      zip2_of_maps (add (2 ^ 16)) _ _ (pairs xs ys) whole carries_are
      ∙ map_pairs (Fits w16) (λ y. y < 2 ^ 48) (λ v. scaled_lane v.0 v.1) (λ x y. x * y / 2 ^ 32 % 65536) (λ i j u k. scaled_is i j u.fits k) xs ys (lx ∙ sym ly) fx fy

-- ---- quotients
abbrev pub minus : ℕ → ℕ
minus a = (a + 65535) % 65536

at_least : (x a : ℕ) → 0 < a → a ≤ x → 65535 ≡ min (65536 * x / a) 65535
at_least x a some le =
    let n : ℕ = 65536 * x in
    let whole : n ≡ n / a * a + n % a = sym (div-add-mod' n a) in
    let rest : n % a < a = mod-lt n (omega (arith, some)) in
    elim (cases_lt (n / a) 65536) [
      | inl less ↦
          let most : n / a * a ≤ 65535 * a = mul-le (n / a) a 65535 a (omega (arith, less)) (omega arith) in
          absurd (omega (arith, whole, rest, most, le))
      | inr past ↦ omega (arith, past)
    ]

less_than : (x a : ℕ) → 0 < a → x < a → x * 65536 / a < 65536
less_than x a some lt =
    let n : ℕ = x * 65536 in
    let whole : n ≡ n / a * a + n % a = sym (div-add-mod' n a) in
    elim (cases_lt (n / a) 65536) [
      | inl less ↦ less
      | inr past ↦
          let least : 65536 * a ≤ n / a * a = mul-le 65536 a (n / a) a past (omega arith) in
          absurd (omega (arith, whole, least, lt))
    ]

by_none : (x r : ℕ) → r ≡ 0 → x * r / 4294967296 % 65536 ≡ 0
by_none x r e = rw e (let z : x * 0 / 4294967296 % 65536 ≡ 0 = omega arith in z)

-- what is below the alpha, divided by it
pub quotient_by : (x a r : ℕ) → x < a → a < 65536 → r < 2 ^ 48 → r ≡ 2 ^ 48 / a + 1 → x * (r % 2 ^ 48) / 2 ^ 32 % 65536 ≡ x * 65536 / a
quotient_by x a r lt ha fits e =
    let low : r % 2 ^ 48 ≡ 2 ^ 48 / a + 1 = omega (arith, fits, e) in
    let is = by_alpha x a (omega (arith, lt, ha)) (omega (arith, lt)) ha in
    let less = less_than x a (omega (arith, lt)) lt in
    rw (low, is) (omega (arith, less))

-- an alpha that comes from eight bits, and its entry in the table
pub entry_divides : (a : ℕ) → a ≡ 257 * (a % 256) → IsReciprocal a (reciprocal_of a)
entry_divides a e =
    let b : ℕ = a % 256 in
    let hb : b < 256 = omega arith in
    let fits = entry_fits b hb in
    record {
      none = λ z x h. by_none x (reciprocal_of a % 2 ^ 48) (let zero_byte : a % 256 ≡ 0 = omega (arith, z) in rw zero_byte refl);
      some = λ x lt.
          let is : reciprocal_of a ≡ 2 ^ 48 / a + 1 = entry_is b (omega (arith, lt, e)) hb ∙ ap (λ (n : ℕ). 2 ^ 48 / n + 1) (sym e) in
          quotient_by x a (reciprocal_of a) lt (omega (arith, e, hb)) (omega (arith, fits)) is;
    }

-- any alpha, and the reciprocal that is computed
pub whole_divides : (a : ℕ) → a < 65536 → IsReciprocal a (whole_reciprocal_of a)
whole_divides zero ha = record { none = λ z x h. (let e : x * 1 / 4294967296 % 65536 ≡ 0 = omega (arith, h) in e); some = λ x lt. absurd (omega (arith, lt)) }
whole_divides (suc zero) ha = record { none = λ z x h. absurd (omega (arith, z)); some = λ x lt. (let e : x ≡ 0 = omega (arith, lt) in rw e refl) }
whole_divides (suc (suc n)) ha =
    let a : ℕ = suc (suc n) in
    let large : max a 1 ≡ a = omega arith in
    let is : whole_reciprocal_of a ≡ 2 ^ 48 / a + 1 = ap (λ (n : ℕ). 2 ^ 48 / n + 1) large in
    let fits = reciprocal_fits a (omega arith) in
    record { none = λ z x h. absurd (omega (arith, z)); some = λ x lt. quotient_by x a (whole_reciprocal_of a) lt ha (omega (arith, is, fits)) is }

divided_lane : (x a r : ℕ) → x < 65536 → a < 65536 → IsReciprocal a r → cond (leb x (minus a)) (x * (r % 2 ^ 48) / 2 ^ 32 % 65536) 65535 ≡ channel_quotient 65535 x a
divided_lane x zero r hx ha is =
    let t : cond (leb x (minus 0)) (x * (r % 2 ^ 48) / 2 ^ 32 % 65536) 65535 ≡ x * (r % 2 ^ 48) / 2 ^ 32 % 65536 = grind (arith, nat_tests, hx) in
    t ∙ is.none refl x hx
divided_lane x (suc n) r hx ha is =
    let a : ℕ = suc n in
    let v : ℕ = x * (r % 2 ^ 48) / 2 ^ 32 % 65536 in
    let before : minus a ≡ n = omega (arith, ha) in
    elim (cases_lt n x) [
      | inl more ↦
          let t : cond (leb x n) v 65535 ≡ 65535 = grind (arith, nat_tests, more) in
          rw before (t ∙ at_least x a (omega arith) (omega (arith, more)) ∙ cut x a (omega arith))
      | inr le ↦
          let t : cond (leb x n) v 65535 ≡ v = grind (arith, nat_tests, le) in
          let less : x * 65536 / a < 65536 = less_than x a (omega arith) (omega (arith, le)) in
          let same : x * 65536 ≡ 65536 * x = omega arith in
          let most : x * 65536 / a ≡ min (65536 * x / a) 65535 = (let m : x * 65536 / a ≡ min (x * 65536 / a) 65535 = omega (arith, less) in m ∙ ap (λ (n : ℕ). min (n / a) 65535) same) in
          rw before (t ∙ is.some x (omega (arith, le)) ∙ most ∙ cut x a (omega arith))
    ]

divided_all : (f : ℕ → ℕ) (n : ℕ) (xs bs : List ℕ) → length xs ≡ n → Each1 (Fits w16) xs → Each1 (Fits w16) bs → Each1 (λ a. IsReciprocal a (f a)) bs
    → sel_l (zip2 leb xs (map minus bs)) (zip2 (λ x y. x * y / 2 ^ 32 % 65536) xs (map (λ a. f a % 2 ^ 48) bs)) (replicate n 65535) ≡ zip2 (channel_quotient 65535) xs bs
divided_all f zero [] bs l p q r = refl
divided_all f zero (x ∷ xs) bs l p q r = absurd (omega (arith, l))
divided_all f (suc n) [] bs l p q r = absurd (omega (arith, l))
divided_all f (suc n) (x ∷ xs) [] l p q r = refl
divided_all f (suc n) (x ∷ xs) (a ∷ bs) l p q r = cons (divided_lane x a (f a) p.0.fits q.0.fits r.0) (divided_all f n xs bs (omega (arith, l)) p.1 q.1 r.1)

pub divided_are : (f : ℕ → ℕ) (xs bs qs : List ℕ) → length xs ≡ 16 → Each1 (Fits w16) xs → Each1 (Fits w16) bs → Each1 (λ a. IsReciprocal a (f a)) bs
    → qs ≡ zip2 (λ x y. x * y / 2 ^ 32 % 65536) xs (map (λ a. f a % 2 ^ 48) bs)
    → sel_l (map (top (hbits w16)) (zip2 (λ x y. cond (leb x y) (2 ^ bits w16 - 1) 0) xs (map minus bs))) qs (replicate 16 65535) ≡ zip2 (channel_quotient 65535) xs bs
divided_are f xs bs qs l p q r e =
    ap (λ ms. sel_l ms qs (replicate 16 65535)) (tops_compared w16 leb xs (map minus bs))
    ∙ ap (λ (q : List ℕ). sel_l (zip2 leb xs (map minus bs)) q (replicate 16 65535)) e
    ∙ divided_all f 16 xs bs l p q r

-- the parts of numbers of which the lower 48 bits count
first_of : (y : ℕ) → y % 65536 ≡ y % 2 ^ 48 % 65536
first_of y = omega arith

second_of : (y : ℕ) → y / 65536 % 65536 ≡ y % 2 ^ 48 / 65536 % 65536
second_of y = omega arith

third_of : (y : ℕ) → y / 65536 / 65536 % 65536 ≡ y % 2 ^ 48 / 65536 / 65536 % 65536
third_of y = omega arith

pub firsts_of : (f : ℕ → ℕ) (bs : List ℕ) → map (λ a. f a % 65536) bs ≡ map (λ y. y % 65536) (map (λ a. f a % 2 ^ 48) bs)
firsts_of f [] = refl
firsts_of f (a ∷ bs) = cons (first_of (f a)) (firsts_of f bs)

pub seconds_of : (f : ℕ → ℕ) (bs : List ℕ) → map (λ a. f a / 65536 % 65536) bs ≡ map (λ y. y / 65536 % 65536) (map (λ a. f a % 2 ^ 48) bs)
seconds_of f [] = refl
seconds_of f (a ∷ bs) = cons (second_of (f a)) (seconds_of f bs)

pub thirds_of : (f : ℕ → ℕ) (bs : List ℕ) → map (λ a. f a / 65536 / 65536 % 65536) bs ≡ map (λ y. y / 65536 / 65536 % 65536) (map (λ a. f a % 2 ^ 48) bs)
thirds_of f [] = refl
thirds_of f (a ∷ bs) = cons (third_of (f a)) (thirds_of f bs)

-- ---- opaque pixels stay
whole_lane : (x : ℕ) → x < 65536 → x ≡ channel_quotient 65535 x 65535
whole_lane x h = omega (arith, h)

pub opaque_are : (n : ℕ) (xs : List ℕ) → length xs ≡ n → Each1 (Fits w16) xs → xs ≡ zip2 (channel_quotient 65535) xs (replicate n 65535)
opaque_are zero [] l f = refl
opaque_are zero (x ∷ xs) l f = absurd (omega (arith, l))
opaque_are (suc n) [] l f = absurd (omega (arith, l))
opaque_are (suc n) (x ∷ xs) l f = cons (whole_lane x f.0.fits) (opaque_are n xs (omega (arith, l)) f.1)

pub lower_fit : (f : ℕ → ℕ) (bs : List ℕ) → Each1 (λ y. y < 2 ^ 48) (map (λ a. f a % 2 ^ 48) bs)
lower_fit f [] = tt
lower_fit f (a ∷ bs) = (omega arith, lower_fit f bs)

-- ---- the alphas fit, and have reciprocals
fits_at : (xs : List ℕ) (k : ℕ) → Each1 (Fits w16) xs → get_or xs k 0 < 65536
fits_at [] k f = omega arith
fits_at (x ∷ xs) zero f = f.0.fits
fits_at (x ∷ xs) (suc k) f = fits_at xs k f.1

fits_of : (x : ℕ) → x < 65536 → Fits w16 x
fits_of x h = record { fits = h }

pub alphas_fit : (xs : List ℕ) → Each1 (Fits w16) xs → Each1 (Fits w16) (alphas_in xs)
alphas_fit xs f =
    let a = fits_of (get_or xs 3 0) (fits_at xs 3 f) in
    let b = fits_of (get_or xs 7 0) (fits_at xs 7 f) in
    let c = fits_of (get_or xs 11 0) (fits_at xs 11 f) in
    let d = fits_of (get_or xs 15 0) (fits_at xs 15 f) in
    (a, (a, (a, (a, (b, (b, (b, (b, (c, (c, (c, (c, (d, (d, (d, (d, tt))))))))))))))))

pub entries_divide : (bs : List ℕ) → Each1 (λ a. a ≡ 257 * (a % 256)) bs → Each1 (λ a. IsReciprocal a (reciprocal_of a)) bs
entries_divide [] r = tt
entries_divide (a ∷ bs) r = (entry_divides a r.0, entries_divide bs r.1)

pub wholes_divide : (bs : List ℕ) → Each1 (Fits w16) bs → Each1 (λ a. IsReciprocal a (whole_reciprocal_of a)) bs
wholes_divide [] f = tt
wholes_divide (a ∷ bs) f = (whole_divides a f.0.fits, wholes_divide bs f.1)

-- ---- tests of the alphas
abbrev colors : List ℕ
colors = 65535 ∷ 65535 ∷ 65535 ∷ 0 ∷ 65535 ∷ 65535 ∷ 65535 ∷ 0 ∷ 65535 ∷ 65535 ∷ 65535 ∷ 0 ∷ 65535 ∷ 65535 ∷ 65535 ∷ 0 ∷ []

-- an alpha, where all channels are 65535 with the colors set
pub opaque_at : (xs : List ℕ) (k : ℕ) → length xs ≡ 16 → k < 16 → get_or colors k 0 ≡ 0 → get_or {A = ℕ} (replicate 16 65535) k 0 ≡ 65535
    → zip2 bit_or xs colors ≡ replicate 16 65535 → get_or xs k 0 ≡ 65535
opaque_at xs k long h zero_there here all = lane_is xs colors k 65535 long refl h zero_there all here

pub opaque_alphas : (a b c d : ℕ) → a ≡ 65535 → b ≡ 65535 → c ≡ 65535 → d ≡ 65535 → replicate 16 65535 ≡ for_each_channel a b c d
opaque_alphas a b c d e f g h = rw (e, f, g, h) refl

abbrev lowers_of_alphas : List ℕ
lowers_of_alphas = 0 ∷ 0 ∷ 0 ∷ 255 ∷ 0 ∷ 0 ∷ 0 ∷ 255 ∷ 0 ∷ 0 ∷ 0 ∷ 255 ∷ 0 ∷ 0 ∷ 0 ∷ 255 ∷ []

abbrev less : ℕ → ℕ → ℕ
less x y = (x + (65536 - y)) % 65536

repeated : (a : ℕ) → a < 65536 → bit_and (less (a / 2 ^ 8) a) 255 ≡ 0 → a ≡ 257 * (a % 256)
repeated a h e =
    let m : bit_and (less (a / 2 ^ 8) a) 255 ≡ less (a / 2 ^ 8) a % 256 = and_mask (less (a / 2 ^ 8) a) 8 in
    let none : less (a / 2 ^ 8) a % 256 ≡ 0 = sym m ∙ e in
    omega (arith, h, none)

pub repeated_at : (xs : List ℕ) (k : ℕ) → length xs ≡ 16 → Each1 (Fits w16) xs → k < 16
    → get_or lowers_of_alphas k 0 ≡ 255 → get_or {A = ℕ} (replicate 16 8) k 0 ≡ 8 → get_or {A = ℕ} (replicate 16 0) k 0 ≡ 0
    → zip2 bit_and (zip2 less (zip2 shr xs (replicate 16 8)) xs) lowers_of_alphas ≡ replicate 16 0
    → get_or xs k 0 ≡ 257 * (get_or xs k 0 % 256)
repeated_at xs k long fits h lower eight zero_there all =
    let uppers : List ℕ = zip2 shr xs (replicate 16 8) in
    let a : ℕ = get_or xs k 0 in
    let long_uppers : length uppers ≡ 16 = length-zip2 shr xs (replicate 16 8) long ∙ long in
    let long_less : length (zip2 less uppers xs) ≡ 16 = length-zip2 less uppers xs (long_uppers ∙ sym long) ∙ long_uppers in
    let upper : get_or uppers k 0 ≡ a / 2 ^ 8 = get_or-zip2 shr xs (replicate 16 8) k 0 0 0 (omega arith) h ∙ ap (λ (n : ℕ). a / 2 ^ n) eight in
    let rest : get_or (zip2 less uppers xs) k 0 ≡ less (a / 2 ^ 8) a = get_or-zip2 less uppers xs k 0 0 0 (omega arith) (omega arith) ∙ ap (λ (n : ℕ). less n a) upper in
    let both : get_or (zip2 bit_and (zip2 less uppers xs) lowers_of_alphas) k 0 ≡ bit_and (less (a / 2 ^ 8) a) 255 =
    get_or-zip2 bit_and (zip2 less uppers xs) lowers_of_alphas k 0 0 0 (omega arith) h ∙ ap (λ (n : ℕ). bit_and n (get_or lowers_of_alphas k 0)) rest
    ∙ ap (bit_and (less (a / 2 ^ 8) a)) lower in
    repeated a (fits_at xs k fits) (sym both ∙ ap (λ (l : List ℕ). get_or l k 0) all ∙ zero_there)

pub repeated_alphas : (a b c d : ℕ) → a ≡ 257 * (a % 256) → b ≡ 257 * (b % 256) → c ≡ 257 * (c % 256) → d ≡ 257 * (d % 256)
    → Each1 (λ x. x ≡ 257 * (x % 256)) (for_each_channel a b c d)
repeated_alphas a b c d e f g h = (e, (e, (e, (e, (f, (f, (f, (f, (g, (g, (g, (g, (h, (h, (h, (h, tt))))))))))))))))

-- ---- colors and alphas put together
pub alphas_put : (u v : List ℕ) → length u ≡ 16 → length v ≡ 16
    → pick_l 0 (u ++ v) (0 ∷ 1 ∷ 2 ∷ 19 ∷ 4 ∷ 5 ∷ 6 ∷ 23 ∷ 8 ∷ 9 ∷ 10 ∷ 27 ∷ 12 ∷ 13 ∷ 14 ∷ 31 ∷ []) ≡ with_alphas u v
alphas_put u v h k = rw (← (is_sixteen u h).1, ← (is_sixteen v k).1) refl

pub alphas_stay : (u : List ℕ) → length u ≡ 16 → with_alphas u u ≡ u
alphas_stay u h = rw (← (is_sixteen u h).1) refl
