-- One channel of a composite, and of a run of channels.
use Rattle.std.specs.Prelude.{ℕ, ◌+◌, ◌-◌}
use Rattle.pix_ops.specs.declared.ops.Op.{Op}
use Rattle.pix_chan.specs.Number.{saturating_sum}
use Rattle.pix_chan.specs.Product.{channel_product}
use Rattle.pix_ops.specs.Operators.{Coefficient, Zero, One, OtherAlpha, OneMinusAlpha, row}

-- the channel x times a coefficient, where alpha is the other side's
abbrev pub term : ℕ → Coefficient → ℕ → ℕ → ℕ
term max Zero x alpha = 0
term max One x alpha = x
term max OtherAlpha x alpha = channel_product max x alpha
term max OneMinusAlpha x alpha = channel_product max x (max - alpha)

-- the two terms of the source's channel s, of alpha sa, and the destination's channel d, of alpha
-- da, together
abbrev pub term_sum : ℕ → Op → ℕ → ℕ → ℕ → ℕ → ℕ
term_sum max op s sa d da = term max (row op).source s da + term max (row op).dest d sa

-- the source's channel s, of alpha sa, composited with the destination's channel d, of alpha da
abbrev pub channel_composite : ℕ → Op → ℕ → ℕ → ℕ → ℕ → ℕ
channel_composite max op s sa d da =
    saturating_sum max (term max (row op).source s da) (term max (row op).dest d sa)

-- the source's channel s composited with the destination's channel d, where da1 and sa1 are one
-- minus the alphas
abbrev pub run_composite : ℕ → Op → ℕ × ℕ × ℕ → ℕ → ℕ
run_composite max op (da1, s, sa1) d = channel_composite max op s (max - sa1) d (max - da1)

-- the composite by two coefficients, of channels that come the same way
abbrev pub run_terms : ℕ → Coefficient → Coefficient → ℕ × ℕ × ℕ → ℕ → ℕ
run_terms max source dest (da1, s, sa1) d = saturating_sum max (term max source s (max - da1)) (term max dest d (max - sa1))
