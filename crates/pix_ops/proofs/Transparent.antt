-- A source of alpha 0, whose channel is 0, over a destination: the destination stays.
use Rattle.std.specs.Prelude.{ℤ, pos, ◌*ℤ◌}
use Rattle.std.proofs.Common.{◌≡◌, ℕ, ◌+◌, ◌-◌, ◌*◌, ◌/◌, ◌%◌, ◌<◌, ◌≤◌, arith, ap, ◌∙◌}
use Rattle.std.proofs.Math.IntN.{zero-*ℤ}
use Rattle.std.proofs.lemmas.Nat.{div_below, mod-mul-add}
use Rattle.pix_ops.specs.declared.ops.Op.TheVariants.{SrcOver}
use Rattle.pix_chan.specs.Product.{channel_product, IsProduct}
use Rattle.pix_ops.specs.Composite.{channel_composite}
use Rattle.pix_chan.specs.Step.{step}
use Rattle.pix_ops.specs.Hue.{hue_composite, hue_after, shorter_arc}

pub over_channel : (fine max d da : ℕ) → IsProduct fine max (channel_product max) → d ≤ max → channel_composite max SrcOver 0 0 d da ≡ d
over_channel fine max d da laws fits =
    let all : max - 0 ≡ max = omega arith in
    let same : channel_product max d (max - 0) ≡ d = ap (channel_product max d) all ∙ laws.identity d in
    omega (arith, same)

-- no part of a way is no step
no_step : (max : ℕ) (way : ℤ) → 0 < max → step max (pos 0 *ℤ way) ≡ pos 0
unfolding step
no_step max way some =
    ap (step max) (zero-*ℤ way) ∙ ap (λ n. pos n) (let z : 0 / max ≡ 0 = omega (arith, div_below 0 max 1 (omega arith) (omega arith)) in z)

pub over_hue : (max s d da : ℕ) → 0 < max → d ≤ max → hue_composite max SrcOver s 0 d da ≡ d
over_hue max s d da some fits =
    ap (hue_after max d) (no_step max (shorter_arc max d s) some)
    ∙ ap (λ n. n % (max + 1)) (let z : d + 0 ≡ 0 * (max + 1) + d = omega arith in z)
    ∙ mod-mul-add 0 (max + 1) d (omega arith)
