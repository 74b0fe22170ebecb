use Rattle.std.proofs.Common.{◌≡◌, ◌∙◌, List, ℕ, ap, subst, sym}
use lib.Lanes.{zip2}
use Rattle.pix_chan.specs.Product.{channel_product}
use Rattle.pix_bytes.specs.Lit.{multiplied_light, opaque_light, four_alphas, bytes_of}
use Rattle.pix_bytes.specs.Rows.{IsEach}
use Rattle.pix_bytes.proofs.LitFours.{four_lit}
use Rattle.pix_bytes.proofs.bitmap.rgba_light.decode_four.Goals as goal

pub returns : goal.returns
returns c =
    let src = c.args.src.now in
    let made : c.put.new.bytes ≡ bytes_of (zip2 (channel_product 65535) (opaque_light c.args.is_reversed src) (four_alphas src)) =
    c.put.ensures ∙ ap bytes_of c.lit.ensures in
    subst (λ (dst : List ℕ). IsEach 255 65535 4 4 4 8 (multiplied_light c.args.is_reversed) src dst 4) (sym made) (four_lit c.args.is_reversed src)
