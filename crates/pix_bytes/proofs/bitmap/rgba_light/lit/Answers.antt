use Rattle.std.proofs.Common.{◌∙◌, List, ℕ, ap, arith}
use Rattle.std.proofs.lemmas.List.{take_all}
use lib.Lanes.{zip2}
use Rattle.pix_chan.specs.Product.{channel_product}
use Rattle.pix_bytes.specs.Lit.{opaque_light, four_alphas}
use Rattle.pix_bytes.proofs.LitFours.{opaque_lit}
use Rattle.pix_bytes.proofs.bitmap.rgba_light.lit.Goals as goal
use Rattle.pix_bytes.proofs.bitmap.rgba_light.lit.Goals.{then-are_opaque, else-are_opaque}

pub returns : goal.returns
returns c =
    let bytes = c.args.bytes.now in
    elim c.if-are_opaque.branch [
      | then-are_opaque w ↦
          let is = c.are_opaque.ensures in
          let t = w.if-are_opaque.true in
          w.result-is ∙ c.opaque-colors.ensures ∙ opaque_lit c.args.is_reversed bytes (is.three t) (is.seven t) (is.eleven t) (is.fifteen t)
      | else-are_opaque w ↦ w.result-is ∙ w.products.ensures ∙ ap (λ (l : List ℕ). zip2 (channel_product 65535) l w.alphas.result) c.opaque-colors.ensures ∙ ap (zip2 (channel_product 65535) (opaque_light c.args.is_reversed bytes)) (w.alphas.ensures ∙ ap four_alphas (take_all 16 bytes (omega arith)))
    ]
