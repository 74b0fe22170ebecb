use Rattle.std.proofs.Common.{◌∙◌, List, ℕ, map, ap, arith}
use lib.Lanes.{zip2}
use Rattle.std.proofs.lemmas.List.{length-map}
use Rattle.pix_chan.specs.Product.{channel_quotient}
use Rattle.pix_chan.specs.Planes.{with_alphas}
use Rattle.pix_chan.specs.LaneQuotients.{alphas_in}
use Rattle.pix_chan.specs.declared.chan.bits8.Ch8.{Ch8}
use Rattle.pix_chan.proofs.LaneQuotients.{alphas_last}
use Rattle.pix_chan.proofs.chan.bits8.Ch8Channel.unmultiplied4.Goals as goal

abbrev units : Ch8 → ℕ
units x = x.value

pub returns : goal.returns
returns c =
    let xs : List ℕ = map units c.args.pixels in
    c.channels.ensures ∙ c.unmultiplied.ensures
    ∙ ap (λ (l : List ℕ). with_alphas (zip2 (channel_quotient 255) l (alphas_in l)) l) c.units.ensures
    ∙ ap (λ (l : List ℕ). with_alphas (zip2 (channel_quotient 255) xs l) xs) (alphas_last xs (length-map c.args.pixels units ∙ omega arith))
