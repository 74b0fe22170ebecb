-- The channel quotient, where a quotient by 0 is 0.
use Rattle.std.proofs.Common.{◌≡◌, ℕ, zero, suc, ◌*◌, ◌+◌, ◌/◌, min, refl, ap, ◌∙◌, arith}
use Rattle.std.proofs.Math.Nat.{div-zero}
use Rattle.pix_chan.specs.Product.{channel_quotient}

pub cut_quotient : (max x y : ℕ) → min max ((max + 1) * x / y) ≡ channel_quotient max x y
cut_quotient max x zero = ap (min max) (div-zero ((max + 1) * x)) ∙ (let none : min max 0 ≡ 0 = omega arith in none)
cut_quotient max x (suc y) = refl
