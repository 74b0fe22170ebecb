-- Numbers that lanes compute, lane by lane.
use Rattle.std.proofs.Common.{◌≡◌, ℕ, ◌+◌, ◌-◌, ◌*◌, ◌%◌, ◌^◌, ◌<◌, min, List, [], ◌∷◌, length, map, get_or, refl, ap, sym, ◌∙◌, arith, replicate, false, cond}
use Rattle.std.proofs.lemmas.List.{length-map, get_or-map}
use Rattle.std.proofs.lemmas.List.FromFn.{get_or-range_with_len}
use Rattle.std.proofs.lemmas.Simd.{tops_compared, length-zip2, get_or-zip2, get_or-sel_l, length-sel_l, get_or-replicate, length-replicate}
use lib.Dec.{eqb}
use lib.Lanes.{zip2, sel_l, top}
use mir.Syntax.{w16}
use mir.Val.{bits, hbits}
use Rattle.pix_chan.specs.Number.{saturating_sum}

-- the operations of a lane that has m values
abbrev pub add : ℕ → ℕ → ℕ → ℕ
add m x y = (x + y) % m

abbrev pub mul : ℕ → ℕ → ℕ → ℕ
mul m x y = x * y % m

abbrev pub same : ℕ → ℕ
same x = x

-- lane i of two vectors, computed by f
pub lane_of : (f : ℕ → ℕ → ℕ) (xs ys : List ℕ) (i : ℕ) → length xs ≡ 16 → length ys ≡ 16 → i < 16 → get_or (zip2 f xs ys) i 0 ≡ f (get_or xs i 0) (get_or ys i 0)
lane_of f xs ys i long other below = get_or-zip2 f xs ys i 0 0 0 (omega arith) (omega arith)

pub long_of : (f : ℕ → ℕ → ℕ) (xs ys : List ℕ) → length xs ≡ 16 → length ys ≡ 16 → length (zip2 f xs ys) ≡ 16
long_of f xs ys long other = length-zip2 f xs ys (omega arith) ∙ long

-- the sum of three numbers of a lane, up to 65535
pub three_summed : (f g h : ℕ → ℕ) (xs ys zs : List ℕ) (i : ℕ) → length xs ≡ 16 → length ys ≡ 16 → length zs ≡ 16 → i < 16
    → get_or (zip2 (saturating_sum 65535) (zip2 (saturating_sum 65535) (map f xs) (map g ys)) (map h zs)) i 0
    ≡ min 65535 (f (get_or xs i 0) + g (get_or ys i 0) + h (get_or zs i 0))
three_summed f g h xs ys zs i lx ly lz below =
    let mx : length (map f xs) ≡ 16 = length-map xs f ∙ lx in
    let my : length (map g ys) ≡ 16 = length-map ys g ∙ ly in
    let mz : length (map h zs) ≡ 16 = length-map zs h ∙ lz in
    let s = long_of (saturating_sum 65535) (map f xs) (map g ys) mx my in
    let e = lane_of (saturating_sum 65535) (zip2 (saturating_sum 65535) (map f xs) (map g ys)) (map h zs) i s mz below in
    let d = lane_of (saturating_sum 65535) (map f xs) (map g ys) i mx my below in
    let x = get_or-map f xs i 0 0 (omega arith) in
    let y = get_or-map g ys i 0 0 (omega arith) in
    let z = get_or-map h zs i 0 0 (omega arith) in
    omega (arith, e, d, x, y, z)

-- a choice of each lane, by whether two others are equal
module _ (xs ys ats bs : List ℕ) (lx : length xs ≡ 16) (ly : length ys ≡ 16) (la : length ats ≡ 16) (lb : length bs ≡ 16) where
  abbrev chosen : List ℕ
  chosen = sel_l (map (top (hbits w16)) (zip2 (λ a b. cond (eqb a b) (2 ^ bits w16 - 1) 0) xs ys)) ats bs

  long_equal : length (zip2 eqb xs ys) ≡ 16
  long_equal = length-zip2 eqb xs ys (lx ∙ sym ly) ∙ lx

  pub long_chosen : length chosen ≡ 16
  long_chosen = rw (tops_compared w16 eqb xs ys) (length-sel_l (zip2 eqb xs ys) ats bs (long_equal ∙ sym la) (long_equal ∙ sym lb) ∙ long_equal)

  pub chosen_at : (i : ℕ) → i < 16 → get_or chosen i 0 ≡ cond (eqb (get_or xs i 0) (get_or ys i 0)) (get_or ats i 0) (get_or bs i 0)
  chosen_at i below =
      let e = get_or-zip2 eqb xs ys i 0 0 false (omega arith) (omega arith) in
      rw (tops_compared w16 eqb xs ys)
      (get_or-sel_l (zip2 eqb xs ys) ats bs i 0 (omega (arith, long_equal)) (omega arith) (omega arith)
      ∙ ap (λ t. cond t (get_or ats i 0) (get_or bs i 0)) e)

-- one number in every lane
pub splat_long : (n : ℕ) → length (replicate 16 n) ≡ 16
splat_long n = length-replicate 16 n

pub splat_at : (n i : ℕ) → i < 16 → get_or (replicate 16 n) i 0 ≡ n
splat_at n i below = get_or-replicate 16 i n 0 below

-- the number of each lane
pub lanes_are : (i : ℕ) → i < 16 → get_or (0 ∷ 1 ∷ 2 ∷ 3 ∷ 4 ∷ 5 ∷ 6 ∷ 7 ∷ 8 ∷ 9 ∷ 10 ∷ 11 ∷ 12 ∷ 13 ∷ 14 ∷ 15 ∷ []) i 0 ≡ i
lanes_are i below = get_or-range_with_len 0 16 i 0 below ∙ omega arith

abbrev numbers : List ℕ
numbers = 0 ∷ 1 ∷ 2 ∷ 3 ∷ 4 ∷ 5 ∷ 6 ∷ 7 ∷ 8 ∷ 9 ∷ 10 ∷ 11 ∷ 12 ∷ 13 ∷ 14 ∷ 15 ∷ []

-- a number of a wider lane
same_at : (xs : List ℕ) (i : ℕ) → length xs ≡ 16 → i < 16 → get_or (map same xs) i 0 ≡ get_or xs i 0
same_at xs i long below = get_or-map same xs i 0 0 (omega arith)

-- the key of lane i, of a distance below 65536 and a block below 16
pub key_at : (least ats : List ℕ) (i : ℕ) → length least ≡ 16 → length ats ≡ 16 → i < 16 → get_or least i 0 < 65536 → get_or ats i 0 < 16
    → get_or (zip2 (add (2 ^ 32)) (zip2 (mul (2 ^ 32)) (map same least) (replicate 16 65536))
    (map same (zip2 (add (2 ^ 16)) (zip2 (mul (2 ^ 16)) ats (replicate 16 16)) numbers))) i 0
    ≡ get_or least i 0 * 65536 + (16 * get_or ats i 0 + i)
key_at least ats i long other below small few =
    let wide : length (map same least) ≡ 16 = length-map least same ∙ long in
    let high = long_of (mul (2 ^ 32)) (map same least) (replicate 16 65536) wide (splat_long 65536) in
    let sixteen = long_of (mul (2 ^ 16)) ats (replicate 16 16) other (splat_long 16) in
    let lanes = long_of (add (2 ^ 16)) (zip2 (mul (2 ^ 16)) ats (replicate 16 16)) numbers sixteen refl in
    let e = lane_of (add (2 ^ 32)) _ _ i high (length-map (zip2 (add (2 ^ 16)) (zip2 (mul (2 ^ 16)) ats (replicate 16 16)) numbers) same ∙ lanes) below in
    let f = lane_of (mul (2 ^ 32)) (map same least) (replicate 16 65536) i wide (splat_long 65536) below in
    let g = same_at (zip2 (add (2 ^ 16)) (zip2 (mul (2 ^ 16)) ats (replicate 16 16)) numbers) i lanes below in
    let h = lane_of (add (2 ^ 16)) (zip2 (mul (2 ^ 16)) ats (replicate 16 16)) numbers i sixteen refl below in
    let k = lane_of (mul (2 ^ 16)) ats (replicate 16 16) i other (splat_long 16) below in
    rw (e, f, g, h, k, same_at least i long below, splat_at 65536 i below, splat_at 16 i below, lanes_are i below) (omega arith)

-- the sum of two numbers of a wide lane
pub added_at : (xs ys : List ℕ) (i : ℕ) → length xs ≡ 16 → length ys ≡ 16 → i < 16 → get_or xs i 0 + get_or ys i 0 < 2 ^ 32
    → get_or (zip2 (add (2 ^ 32)) xs ys) i 0 ≡ get_or xs i 0 + get_or ys i 0
added_at xs ys i long other below few =
    let e = lane_of (add (2 ^ 32)) xs ys i long other below in
    rw e (omega arith)

-- the sum of three numbers of a lane
module _ (reds greens blues : List ℕ) (lr : length reds ≡ 16) (lg : length greens ≡ 16) (lb : length blues ≡ 16) where
  abbrev two : List ℕ
  two = zip2 (add (2 ^ 32)) (map same reds) (map same greens)

  two_long : length two ≡ 16
  two_long = long_of (add (2 ^ 32)) (map same reds) (map same greens) (length-map reds same ∙ lr) (length-map greens same ∙ lg)

  pub long_wide_sum : length (zip2 (add (2 ^ 32)) two (map same blues)) ≡ 16
  long_wide_sum = long_of (add (2 ^ 32)) two (map same blues) two_long (length-map blues same ∙ lb)

  pub wide_sum_at : (i : ℕ) → i < 16 → get_or reds i 0 < 65536 → get_or greens i 0 < 65536 → get_or blues i 0 < 65536
      → get_or (zip2 (add (2 ^ 32)) two (map same blues)) i 0 ≡ get_or reds i 0 + get_or greens i 0 + get_or blues i 0
  wide_sum_at i below sr sg sb =
      let g = lane_of (add (2 ^ 32)) two (map same blues) i two_long (length-map blues same ∙ lb) below in
      let h = lane_of (add (2 ^ 32)) (map same reds) (map same greens) i (length-map reds same ∙ lr) (length-map greens same ∙ lg) below in
      rw (g, h, same_at reds i lr below, same_at greens i lg below, same_at blues i lb below) (omega arith)

-- the keys of block j, of a number of each lane; m is 16 times j
module _ (far : List ℕ) (m : ℕ) (long : length far ≡ 16) where
  abbrev high : List ℕ
  high = zip2 (mul (2 ^ 32)) far (replicate 16 256)

  abbrev low : List ℕ
  low = zip2 (add (2 ^ 32)) (map same numbers) (replicate 16 m)

  high_long : length high ≡ 16
  high_long = long_of (mul (2 ^ 32)) far (replicate 16 256) long (splat_long 256)

  low_long : length low ≡ 16
  low_long = long_of (add (2 ^ 32)) (map same numbers) (replicate 16 m) refl (splat_long m)

  pub long_wide_key : length (zip2 (add (2 ^ 32)) high low) ≡ 16
  long_wide_key = long_of (add (2 ^ 32)) high low high_long low_long

  pub wide_key_at : (i j : ℕ) → i < 16 → j < 16 → m ≡ 16 * j → get_or far i 0 < 16777216
      → get_or (zip2 (add (2 ^ 32)) high low) i 0 ≡ get_or far i 0 * 256 + (16 * j + i)
  wide_key_at i j below few is small =
      let e = lane_of (add (2 ^ 32)) high low i high_long low_long below in
      let f = lane_of (mul (2 ^ 32)) far (replicate 16 256) i long (splat_long 256) below in
      let k = lane_of (add (2 ^ 32)) (map same numbers) (replicate 16 m) i refl (splat_long m) below in
      rw (e, f, k, splat_at 256 i below, splat_at m i below, same_at numbers i refl below, lanes_are i below) (omega arith)
