-- The terms of a composite by their coefficients, for any product of channels.
use Rattle.std.proofs.Common.{◌≡◌, ℕ, ◌-◌, refl}
use Rattle.pix_chan.specs.Product.{channel_product}
use Rattle.pix_ops.specs.Operators.{Coefficient, Zero, One, OtherAlpha, OneMinusAlpha}
use Rattle.pix_ops.specs.Composite.{term}

-- what a coefficient leaves of the channel x, by any product
abbrev pub term_by : (ℕ → ℕ → ℕ) → ℕ → Coefficient → ℕ → ℕ → ℕ
term_by product max Zero x alpha = 0
term_by product max One x alpha = x
term_by product max OtherAlpha x alpha = product x alpha
term_by product max OneMinusAlpha x alpha = product x (max - alpha)

pub term_is : (a : Coefficient) (max x alpha : ℕ) → term max a x alpha ≡ term_by (channel_product max) max a x alpha
term_is Zero max x alpha = refl
term_is One max x alpha = refl
term_is OtherAlpha max x alpha = refl
term_is OneMinusAlpha max x alpha = refl
