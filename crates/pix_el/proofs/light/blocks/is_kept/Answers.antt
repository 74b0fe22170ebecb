use Rattle.std.proofs.Common.{◌≡◌, sym, ap, ◌∙◌, arith}
use Rattle.std.proofs.lemmas.Bool.Decides.{nat_tests}
use Rattle.pix_el.proofs.InLight.{opaque}
use Rattle.pix_el.proofs.light.blocks.is_kept.Goals as goal

pub returns-else-KIND : goal.returns-else-KIND
returns-else-KIND g c = λ e x fits.
    let same : c.to_u32.result ≡ c.to_u32-else-KIND.result = grind (arith, nat_tests, e) in
    sym (opaque g.P.Chan.Channel.max g.P.Alpha.Alpha.mode g.D.Alpha.Alpha.mode _ x g.met.P.Chan.Channel.product_law.identity fits
    (sym c.alpha.ensures ∙ sym c.to_u32.ensures ∙ same ∙ c.to_u32-else-KIND.ensures ∙ ap g.P.Chan.Channel.number c.MAX.ensures ∙ g.met.P.Chan.Channel.max_is_maximum))
