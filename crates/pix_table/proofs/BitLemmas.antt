-- Bits of lanes, and the bits that a shift leaves.
use Rattle.std.proofs.Common.{◌≡◌, ℕ, suc, ◌+◌, ◌-◌, ◌<◌, ◌^◌, ◌%◌, List, length, map, get_or, refl, sym, ap, ◌∙◌, arith, replicate, true, false, cond, eqb, pow_pos}
use Rattle.std.specs.Prelude.{◌/◌}
use mir.Syntax.{w8}
use mir.Val.{hbits, bits}
use lib.Lanes.{zip2, top, mask_l}
use Rattle.std.specs.Int.{bit_at}
use Rattle.std.proofs.lemmas.List.{get_or-map}
use Rattle.std.proofs.Math.Nat.{mod-lt}
use Rattle.std.proofs.lemmas.Nat.{div-add-mod'}
use Rattle.std.proofs.lemmas.Nat.Bits.{bit_at-suc, bit_at_cat_high}
use Rattle.std.proofs.lemmas.Simd.{bitmask_splat, bit_mask_l}

-- the bit of a lane that is 0 is set
pub zero_lane_set : (xs : List ℕ) (j : ℕ) → length xs ≡ 16 → j < 16 → get_or xs j 0 ≡ 0
    → bit_at (mask_l (map (top (hbits w8)) (zip2 (λ x y. cond (eqb x y) (2 ^ bits w8 - 1) 0) xs (replicate 16 0))) % 2 ^ 64) j ≡ 1
zero_lane_set xs j long below is =
    let lane : get_or (map (λ x. eqb x 0) xs) j false ≡ true =
    get_or-map (λ x. eqb x 0) xs j 0 false (omega (arith, long)) ∙ ap (λ x. eqb x 0) is in
    ap (λ m. bit_at m j) (bitmask_splat w8 eqb xs 16 0 long (omega arith)) ∙ bit_mask_l (map (λ x. eqb x 0) xs) j ∙ rw lane refl

-- a shift leaves the bits from a place on
pub shifted_bit : (n k j : ℕ) → bit_at (n / 2 ^ k) j ≡ bit_at n (k + j)
shifted_bit n k j =
    let back : k + j - k ≡ j = omega arith in
    sym (ap (λ (m : ℕ). bit_at m (k + j)) (sym (div-add-mod' n (2 ^ k))) ∙ bit_at_cat_high (n / 2 ^ k) k (n % 2 ^ k) (k + j) (mod-lt n {m = 2 ^ k} (pow_pos k)) (omega arith) ∙ ap (bit_at (n / 2 ^ k)) back)

-- and so does one by a place and one more
pub shifted_bits : (bits rest k t : ℕ) → ((j : ℕ) → bit_at bits (k + j) ≡ bit_at rest j) → (j : ℕ) → bit_at bits (k + t + 1 + j) ≡ bit_at (rest / 2 ^ t / 2) j
shifted_bits bits rest k t same j =
    let place : k + t + 1 + j ≡ k + (t + suc j) = omega arith in
    ap (bit_at bits) place ∙ same (t + suc j) ∙ sym (shifted_bit rest t (suc j)) ∙ bit_at-suc (rest / 2 ^ t) j
