use Rattle.std.proofs.Common.{ℕ, ◌∙◌, ap}
use Rattle.pix_chan.specs.Number.{saturating_sum}
use Rattle.pix_chan.specs.Product.{channel_product}
use Rattle.pix_color.proofs.Shares.{lifted}
use Rattle.pix_color.proofs.hue.lifted_rgb.Goals as goal

pub returns : goal.returns
returns g c =
    let top = g.C.Channel.max in
    let chroma = g.C.Channel.number c.args.chroma in
    let lift = g.C.Channel.number c.args.lift in
    let raise = λ (x : ℕ). saturating_sum top x lift in
    let times = λ (x : ℕ). saturating_sum top (channel_product top chroma x) lift in
    lifted top (g.C.Channel.number c.args.hue) chroma lift (g.C.Channel.number c.sum.result) (g.C.Channel.number c.sum-2.result) (g.C.Channel.number c.sum-3.result)
    g.met.C.Channel.product_law (g.met.C.Channel.numbered.fits c.args.hue) (g.met.C.Channel.numbered.fits c.args.chroma)
    (c.sum.ensures ∙ ap raise c.product.ensures ∙ ap times c.shares-red.ensures.red)
    (c.sum-2.ensures ∙ ap raise c.product-2.ensures ∙ ap times c.shares-red.ensures.green)
    (c.sum-3.ensures ∙ ap raise c.product-3.ensures ∙ ap times c.shares-red.ensures.blue)
