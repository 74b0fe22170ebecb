-- How far numbers are from those between two others, as lanes compute it.
use Rattle.std.specs.Prelude.{min}
use Rattle.std.proofs.Common.{◌≡◌, ℕ, suc, zero, ◌+◌, ◌-◌, ◌*◌, ◌%◌, ◌^◌, ◌<◌, ◌≤◌, Bool, true, false, cond, ltb, ltb-true, ltb-false, List, [], ◌∷◌, length, map, get_or, replicate, refl, ap, ◌∙◌, arith, Fits, w8}
use Rattle.std.proofs.lemmas.List.{get_or-map, length-map}
use Rattle.std.proofs.lemmas.Nat.{mul-le}
use lib.Lanes.{zip2, sel_l, top, Each1}
use Rattle.pix_table.specs.matching.BlockGaps.{gap}
use Rattle.pix_table.proofs.lemmas.matching.LaneNumbers.{add, lane_of, long_of, mul, same, splat_at}

-- what a number is above another one: the greater of the two, less the other
abbrev less : ℕ → ℕ → ℕ
less a b = (a + (2 ^ 8 - b)) % 2 ^ 8

abbrev is_below : ℕ → ℕ → ℕ
is_below a b = cond (ltb a b) 255 0

one_above : (a b : ℕ) → a < 256 → b < 256 → less (cond (top 7 (is_below a b)) b a) b ≡ a - b
one_above a b x y = go (ltb a b) refl
  where
    go : (t : Bool) → ltb a b ≡ t → less (cond (top 7 (cond t 255 0)) b a) b ≡ a - b
    go true e = omega (arith, ltb-true _ _ e)
    go false e = omega (arith, ltb-false _ _ e)

-- the same in lanes
pub above_at : (xs ys : List ℕ) (i : ℕ) → i < length xs → i < length ys → Each1 (Fits w8) xs → Each1 (Fits w8) ys
    → get_or (zip2 less (sel_l (map (top 7) (zip2 is_below xs ys)) ys xs) ys) i 0 ≡ get_or xs i 0 - get_or ys i 0
above_at [] ys i p q f g = absurd (omega arith)
above_at (x ∷ xs) [] i p q f g = absurd (omega arith)
above_at (x ∷ xs) (y ∷ ys) zero p q f g = one_above x y f.0.fits g.0.fits
above_at (x ∷ xs) (y ∷ ys) (suc i) p q f g = above_at xs ys i (omega arith) (omega arith) f.1 g.1

pub above_long : (xs ys : List ℕ) → length xs ≡ length ys → length (zip2 less (sel_l (map (top 7) (zip2 is_below xs ys)) ys xs) ys) ≡ length xs
above_long [] ys e = refl
above_long (x ∷ xs) [] e = absurd (omega arith)
above_long (x ∷ xs) (y ∷ ys) e = ap suc (above_long xs ys (omega arith))

-- the sums of two, squared in wider lanes
pub gap_long : (xs ys : List ℕ) → length xs ≡ 16 → length ys ≡ 16
    → length (zip2 (mul (2 ^ 16)) (map same (zip2 (add (2 ^ 8)) xs ys)) (map same (zip2 (add (2 ^ 8)) xs ys))) ≡ 16
gap_long xs ys lx ly =
    let wide : length (map same (zip2 (add (2 ^ 8)) xs ys)) ≡ 16 = length-map (zip2 (add (2 ^ 8)) xs ys) same ∙ long_of (add (2 ^ 8)) xs ys lx ly in
    long_of (mul (2 ^ 16)) (map same (zip2 (add (2 ^ 8)) xs ys)) (map same (zip2 (add (2 ^ 8)) xs ys)) wide wide

-- so they are at most the squares of how far a number is from those between two
pub gap_at : (least greatest xs ys : List ℕ) (n i : ℕ) → length xs ≡ 16 → length ys ≡ 16 → i < 16
    → get_or xs i 0 ≡ get_or least i 0 - get_or (replicate 16 n) i 0 → get_or ys i 0 ≡ get_or (replicate 16 n) i 0 - get_or greatest i 0
    → get_or (zip2 (mul (2 ^ 16)) (map same (zip2 (add (2 ^ 8)) xs ys)) (map same (zip2 (add (2 ^ 8)) xs ys))) i 0
    ≤ gap (get_or least i 0) (get_or greatest i 0) n
gap_at least greatest xs ys n i lx ly below x y =
    let sums : List ℕ = zip2 (add (2 ^ 8)) xs ys in
    let long : length (zip2 (add (2 ^ 8)) xs ys) ≡ 16 = long_of (add (2 ^ 8)) xs ys lx ly in
    let wide : length (map same (zip2 (add (2 ^ 8)) xs ys)) ≡ 16 = length-map (zip2 (add (2 ^ 8)) xs ys) same ∙ long in
    let k : ℕ = get_or (map same (zip2 (add (2 ^ 8)) xs ys)) i 0 in
    let a : ℕ = (get_or least i 0 - n) + (n - get_or greatest i 0) in
    let sum : get_or (zip2 (add (2 ^ 8)) xs ys) i 0 ≡ (get_or xs i 0 + get_or ys i 0) % 2 ^ 8 = lane_of (add (2 ^ 8)) xs ys i lx ly below in
    let e : get_or (map same (zip2 (add (2 ^ 8)) xs ys)) i 0 ≡ get_or (zip2 (add (2 ^ 8)) xs ys) i 0 =
    get_or-map same (zip2 (add (2 ^ 8)) xs ys) i 0 0 (omega (arith, long, below)) in
    let few : k ≤ a = omega (arith, e, sum, x, y, splat_at n i below) in
    let square : k * k ≤ a * a = mul-le k k a a few few in
    let product : get_or (zip2 (mul (2 ^ 16)) (map same (zip2 (add (2 ^ 8)) xs ys)) (map same (zip2 (add (2 ^ 8)) xs ys))) i 0 ≡ k * k % 2 ^ 16 =
    lane_of (mul (2 ^ 16)) (map same (zip2 (add (2 ^ 8)) xs ys)) (map same (zip2 (add (2 ^ 8)) xs ys)) i wide wide below in
    omega (arith, product, square)
