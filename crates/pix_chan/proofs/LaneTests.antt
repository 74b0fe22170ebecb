-- Tests of all lanes of a vector.
use Rattle.std.proofs.Common.{◌≡◌, ℕ, zero, suc, ◌<◌, ◌-◌, ◌*◌, ◌%◌, ◌^◌, List, [], ◌∷◌, length, map, get_or, refl, sym, ap, ◌∙◌, arith, replicate, Bool, true, false, cond, eqb, eqb-true, bit_or}
use mir.Syntax.{Width}
use mir.Val.{hbits, bits}
use lib.Lanes.{zip2, Each1, top, mask_l}
use Rattle.std.specs.Int.Bits.{or_zero_r}
use Rattle.std.proofs.lemmas.List.{length-map}
use Rattle.std.proofs.lemmas.Simd.{bitmask_splat, get_or-zip2}
use Rattle.pix_chan.proofs.Planes.{cons}

mask_full : (n : ℕ) (ms : List Bool) → length ms ≡ n → suc (mask_l ms) ≡ 2 ^ n → Each1 (λ m. m ≡ true) ms
mask_full n [] l e = tt
mask_full zero (m ∷ ms) l e = absurd (omega (arith, l))
mask_full (suc n) (true ∷ ms) l e =
    let p : 2 ^ suc n ≡ 2 * 2 ^ n = grind arith in
    (refl, mask_full n ms (omega (arith, l)) (omega (arith, e, p)))
mask_full (suc n) (false ∷ ms) l e =
    let p : 2 ^ suc n ≡ 2 * 2 ^ n = grind arith in
    absurd (omega (arith, e, p))

all_equal : (n v : ℕ) (xs : List ℕ) → length xs ≡ n → Each1 (λ m. m ≡ true) (map (λ x. eqb x v) xs) → xs ≡ replicate n v
all_equal zero v [] l f = refl
all_equal zero v (x ∷ xs) l f = absurd (omega (arith, l))
all_equal (suc n) v [] l f = absurd (omega (arith, l))
all_equal (suc n) v (x ∷ xs) l f = cons (eqb-true x v f.0) (all_equal n v xs (omega (arith, l)) f.1)

pub all_are : (w : Width) (xs : List ℕ) (v : ℕ) → length xs ≡ 16
    → mask_l (map (top (hbits w)) (zip2 (λ x y. cond (eqb x y) (2 ^ bits w - 1) 0) xs (replicate 16 v))) % 2 ^ 64 ≡ 65535
    → xs ≡ replicate 16 v
all_are w xs v l e =
    let mask = sym (bitmask_splat w eqb xs 16 v l (omega arith)) ∙ e in
    all_equal 16 v xs l (mask_full 16 (map (λ x. eqb x v) xs) (length-map xs (λ x. eqb x v) ∙ l) (ap suc mask))

-- a lane that is joined with 0
pub lane_is : (xs ys : List ℕ) (k v : ℕ) → length xs ≡ 16 → length ys ≡ 16 → k < 16 → get_or ys k 0 ≡ 0 → zip2 bit_or xs ys ≡ replicate 16 v → get_or (replicate 16 v) k 0 ≡ v
    → get_or xs k 0 ≡ v
lane_is xs ys k v l m h none all here =
    sym (or_zero_r (get_or xs k 0)) ∙ ap (bit_or (get_or xs k 0)) (sym none)
    ∙ sym (get_or-zip2 bit_or xs ys k 0 0 0 (omega arith) (omega arith)) ∙ ap (λ (l : List ℕ). get_or l k 0) all ∙ here
