use Rattle.std.proofs.Common.{◌≡◌, ◌∙◌, List, ℕ, ap, length}
use Rattle.std.proofs.lemmas.Simd.{length-zip2}
use Rattle.pix_chan.specs.Product.{channel_quotient}
use Rattle.pix_chan.specs.Planes.{with_alphas}
use Rattle.pix_chan.specs.LaneQuotients.{alphas_in}
use Rattle.pix_chan.proofs.LaneQuotients.{alphas_put}
use Rattle.pix_chan.proofs.chan.bits8.lanes.unmultiplied.Goals as goal

pub returns : goal.returns
returns c =
    let x : List ℕ = c.args.x in
    let long : length c.over_alphas.result ≡ 16 = ap length c.over_alphas.ensures ∙ length-zip2 (channel_quotient 255) x (alphas_in x) c.fits-x.0 ∙ c.fits-x.0 in
    alphas_put c.over_alphas.result x long c.fits-x.0 ∙ ap (λ (l : List ℕ). with_alphas l x) c.over_alphas.ensures
