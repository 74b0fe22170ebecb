-- Of `scaled`: its channel, for a hue and for another one.
use Rattle.std.proofs.Common.{◌∙◌, ap, sym, if◌then◌else◌}
use Rattle.pix_chan.specs.Product.{channel_product}
use Rattle.pix_el.proofs.each.scaled.Goals as goal

pub returns-then-is_hue : goal.returns-then-is_hue
returns-then-is_hue g c =
    let n = g.C.Channel.number in
    sym (ap (λ b. if b then n c.args.channel else channel_product g.C.Channel.max (n c.args.channel) (n c.args.matte)) (sym c.is_hue.ensures ∙ c.if-is_hue.true))

pub returns-else-is_hue : goal.returns-else-is_hue
returns-else-is_hue g c =
    let n = g.C.Channel.number in
    g.met.C.Channel.multiplies _ _ _ c.mul.ensures
    ∙ sym (ap (λ b. if b then n c.args.channel else channel_product g.C.Channel.max (n c.args.channel) (n c.args.matte)) (sym c.is_hue.ensures ∙ c.if-is_hue.false))
