-- Weighted sums in 32 bits: what the weights add, less what they take away.
use Rattle.std.specs.Prelude.{ℤ, pos, ◌+ℤ◌, ◌-ℤ◌}
use Rattle.std.specs.Int.{int_max}
use Rattle.std.proofs.Common.{◌≡◌, ℕ, ◌<◌, ◌+◌, ◌*◌, ◌-◌, ◌/◌, ◌∙◌, min, sym, refl, arith}
use Rattle.std.proofs.lemmas.Int.{ints, int_max_is}
use Rattle.pix_chan.specs.Nearest.{nearest}
use Rattle.pix_chan.proofs.Whole.{nearest_of_natural}
use Rattle.pix_color.proofs.Nearest.{nearest-same, nearest-cut}

-- four weighted numbers, each by its parts
pub sum_is : (max whole a b c d e f g h r : ℕ) (x y z t : ℤ) → 0 < whole → x ≡ pos a -ℤ pos b → y ≡ pos c -ℤ pos d → z ≡ pos e -ℤ pos f → t ≡ pos g -ℤ pos h
    → r ≡ min ((2 * (a + c + e + g - (b + d + f + h)) + whole) / (2 * whole)) max → r ≡ nearest max (x +ℤ y +ℤ z +ℤ t) (pos whole)
sum_is max whole a b c d e f g h r x y z t some ex ey ez et er =
    let sum : ℤ = x +ℤ y +ℤ z +ℤ t in
    let n : ℕ = a + c + e + g - (b + d + f + h) in
    let cut : int_max sum (pos 0) ≡ pos n = omega (arith, ints, int_max_is sum (pos 0), ex, ey, ez, et) in
    nearest_of_natural max n whole r er ∙ nearest-same max _ _ (pos whole) _ (sym cut) refl ∙ nearest-cut max sum whole some
