use Rattle.std.specs.Prelude.{pos, ◌-ℤ◌, ℤ}
use Rattle.std.proofs.Common.{◌≡◌, ◌+◌, arith, ap, ◌∙◌}
use Rattle.std.proofs.lemmas.Int.{ints}
use Rattle.pix_chan.specs.Nearest.{nearest}
use Rattle.pix_scale.proofs.Narrow.{nearest_same}
use Rattle.pix_scale.proofs.SignedSums.{nearest_left, nearest_lower}
use Rattle.pix_scale.proofs.signed_pixels.cut.Goals as goal

pub returns-then-to_u32 : goal.returns-then-to_u32
returns-then-to_u32 g c =
    let max = g.C.Channel.max in
    let number = g.C.Channel.number in
    let minus = c.args.minus + 35184372088832 in
    let n : ℤ = pos c.args.plus -ℤ pos minus in
    let all : number c.from_ratio-channel.result ≡ nearest max n (pos 268435456) =
    c.from_ratio-channel.ensures.value
    ∙ nearest_same max _ (pos c.saturating_sub.result) (pos 268435456) (omega (arith, ints, c.saturating_sub.ensures, c.requires.plus))
    ∙ ap (λ k. nearest max (pos k) (pos 268435456)) c.saturating_sub.ensures
    ∙ nearest_left max c.args.plus minus 268435456 (omega arith) in
    omega (
      arith,
      all,
      nearest_lower (number c.args.top) max n (pos 268435456) (g.met.C.Channel.numbered.fits c.args.top),
      c.if-to_u32.true,
      c.to_u32.ensures,
      c.to_u32-2.ensures,
    )

pub returns-else-to_u32 : goal.returns-else-to_u32
returns-else-to_u32 g c =
    let max = g.C.Channel.max in
    let number = g.C.Channel.number in
    let minus = c.args.minus + 35184372088832 in
    let n : ℤ = pos c.args.plus -ℤ pos minus in
    let all : number c.from_ratio-channel.result ≡ nearest max n (pos 268435456) =
    c.from_ratio-channel.ensures.value
    ∙ nearest_same max _ (pos c.saturating_sub.result) (pos 268435456) (omega (arith, ints, c.saturating_sub.ensures, c.requires.plus))
    ∙ ap (λ k. nearest max (pos k) (pos 268435456)) c.saturating_sub.ensures
    ∙ nearest_left max c.args.plus minus 268435456 (omega arith) in
    omega (
      arith,
      all,
      nearest_lower (number c.args.top) max n (pos 268435456) (g.met.C.Channel.numbered.fits c.args.top),
      c.if-to_u32.false,
      c.to_u32.ensures,
      c.to_u32-2.ensures,
    )
