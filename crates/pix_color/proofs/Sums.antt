-- Whole numbers of the code that are small enough for its arithmetic.
use Rattle.std.specs.Prelude.{ℤ, pos, ◌+ℤ◌, ◌*ℤ◌, unsigned_abs}
use Rattle.std.specs.Int.{int_max}
use Rattle.std.proofs.Common.{◌≡◌, ℕ, ◌<◌, ◌≤◌, ◌*◌, ◌+◌, w64, to_z, of_z, SFits, arith, to_z-of_z, ap, ◌∙◌}
use Rattle.std.proofs.lemmas.Nat.{mul-le}
use Rattle.std.proofs.lemmas.Int.{ints, fits_signed_from_abs, unsigned_abs-mul}

pub fits : (z : ℤ) → unsigned_abs z < 9223372036854775808 → SFits w64 z
fits z h = fits_signed_from_abs w64 z h

pub stays : (z : ℤ) → unsigned_abs z < 9223372036854775808 → to_z w64 (of_z w64 z) ≡ z
stays z h = to_z-of_z (fits z h)

-- a weight times a channel
pub product_small : (w : ℤ) (n : ℕ) → unsigned_abs w ≤ 2097152 → n < 65536 → unsigned_abs (w *ℤ pos n) < 274877906944
product_small w n hw hn =
    let most : unsigned_abs w * n ≤ 2097152 * 65536 = mul-le (unsigned_abs w) n 2097152 65536 hw (omega (arith, hn)) in
    omega (arith, most, unsigned_abs-mul w (pos n))

pub sum_small : (a b : ℤ) (m n : ℕ) → unsigned_abs a < m → unsigned_abs b < n → unsigned_abs (a +ℤ b) < m + n
sum_small a b m n ha hb = omega (arith, ints, ha, hb)

-- the sum of four small numbers, as the code makes it
pub sum_stays : (a b c d : ℤ) → unsigned_abs a < 274877906944 → unsigned_abs b < 274877906944 → unsigned_abs c < 274877906944 → unsigned_abs d < 274877906944
    → to_z w64 (of_z w64 (to_z w64 (of_z w64 (to_z w64 (of_z w64 (to_z w64 (of_z w64 a) +ℤ to_z w64 (of_z w64 b))) +ℤ to_z w64 (of_z w64 c))) +ℤ to_z w64 (of_z w64 d)))
    ≡ a +ℤ b +ℤ c +ℤ d
sum_stays a b c d ha hb hc hd =
    let ab = sum_small a b 274877906944 274877906944 ha hb in
    let abc = sum_small (a +ℤ b) c 549755813888 274877906944 ab hc in
    let abcd = sum_small (a +ℤ b +ℤ c) d 824633720832 274877906944 abc hd in
    rw (stays a (omega (arith, ha)), stays b (omega (arith, hb)), stays c (omega (arith, hc)), stays d (omega (arith, hd)), stays (a +ℤ b) (omega (arith, ab)), stays (a +ℤ b +ℤ c) (omega (arith, abc)))
    (stays (a +ℤ b +ℤ c +ℤ d) (omega (arith, abcd)))

-- that sum, cut at 0
pub cut_stays : (a b c d m : ℤ) → unsigned_abs a < 274877906944 → unsigned_abs b < 274877906944 → unsigned_abs c < 274877906944 → unsigned_abs d < 274877906944
    → unsigned_abs m < 9223372036854775808
    → m ≡ int_max (to_z w64 (of_z w64 (to_z w64 (of_z w64 (to_z w64 (of_z w64 (to_z w64 (of_z w64 a) +ℤ to_z w64 (of_z w64 b))) +ℤ to_z w64 (of_z w64 c))) +ℤ to_z w64 (of_z w64 d)))) (pos 0)
    → to_z w64 (of_z w64 m) ≡ int_max (a +ℤ b +ℤ c +ℤ d) (pos 0)
cut_stays a b c d m ha hb hc hd hm e = stays m hm ∙ e ∙ ap (λ z. int_max z (pos 0)) (sum_stays a b c d ha hb hc hd)
