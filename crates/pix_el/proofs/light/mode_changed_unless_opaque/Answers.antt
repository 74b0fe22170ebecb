-- Of `mode_changed_unless_opaque`: the short way.
use Rattle.std.proofs.Common.{sym, ap, ◌∙◌}
use Rattle.pix_el.proofs.InLight.{opaque}
use Rattle.pix_el.proofs.light.mode_changed_unless_opaque.Goals as goal

pub returns-then-to_u32 : goal.returns-then-to_u32
returns-then-to_u32 g c =
    opaque g.C.Channel.max g.A.Alpha.mode g.B.Alpha.mode (g.C.Channel.number c.args.alpha) (g.C.Channel.number c.args.c)
    g.met.C.Channel.product_law.identity (g.met.C.Channel.numbered.fits c.args.c)
    (sym c.to_u32.ensures ∙ c.if-to_u32.true ∙ c.to_u32-2.ensures ∙ ap g.C.Channel.number c.MAX.ensures ∙ g.met.C.Channel.max_is_maximum)
