-- One channel of a composite in exact fractions, and the distance of the rounded one from it.
use Rattle.std.specs.Prelude.{ℕ, ◌+◌, ◌-◌, ◌*◌, ◌≤◌, min}
use Rattle.pix_ops.specs.declared.ops.Op.{Op}
use Rattle.pix_chan.specs.Product.{fineness}
use Rattle.pix_ops.specs.Operators.{Coefficient, Zero, One, OtherAlpha, OneMinusAlpha, row, product_count, matted_count}

-- a coefficient as a part of a whole, where alpha is the other side's, a part of the same whole
abbrev pub weight : Coefficient → ℕ → ℕ → ℕ
weight Zero whole alpha = 0
weight One whole alpha = whole
weight OtherAlpha whole alpha = alpha
weight OneMinusAlpha whole alpha = whole - alpha

-- The source's channel s and alpha sa, of the whole f, composited with the destination's channel d
-- and alpha da, of the whole e. The composite is this number of the whole f * e.
abbrev pub exact_composite : Op → ℕ → ℕ → ℕ → ℕ → ℕ → ℕ → ℕ
exact_composite op f s sa e d da =
    min (f * e) (s * weight (row op).source e da + d * weight (row op).dest f sa)

-- u and v are at most d apart
pub record Within (d u v : ℕ) : Type 0 where
  pub above : u ≤ v + d
  pub below : v ≤ u + d

-- The channel x is at most 1/fineness of a unit for each product from the exact composite of the
-- channels s and d, of alphas sa and da. Both are multiplied by max * fineness, so that every
-- number is whole.
abbrev pub IsNear : ℕ → Op → ℕ → ℕ → ℕ → ℕ → ℕ → Type 0
IsNear max op s sa d da x =
    Within (product_count op * max)
    (fineness * (x * max))
    (fineness * exact_composite op max s sa max d da)

-- The same through a matte m, by which both s and sa are multiplied: all numbers are multiplied by
-- max * max * fineness.
abbrev pub IsNearMatted : ℕ → Op → ℕ → ℕ → ℕ → ℕ → ℕ → ℕ → Type 0
IsNearMatted max op m s sa d da x =
    Within (matted_count op * (max * max))
    (fineness * (x * (max * max)))
    (fineness * exact_composite op (max * max) (s * m) (sa * m) max d da)
