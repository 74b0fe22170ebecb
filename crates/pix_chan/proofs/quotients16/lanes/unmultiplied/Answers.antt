use Rattle.std.proofs.Common.{◌≡◌, ◌∙◌, List, ℕ, replicate, ap, sym, get_or}
use lib.Lanes.{zip2}
use Rattle.pix_chan.specs.Product.{channel_quotient}
use Rattle.pix_chan.specs.Planes.{with_alphas}
use Rattle.pix_chan.specs.LaneQuotients.{alphas_in}
use Rattle.pix_chan.proofs.LaneQuotients.{opaque_are, opaque_alphas, alphas_stay}
use Rattle.pix_chan.proofs.quotients16.lanes.unmultiplied.Goals as goal
use Rattle.pix_chan.proofs.quotients16.lanes.unmultiplied.Goals.{then-are_opaque, else-are_opaque, then-are_repeated, else-are_repeated}

pub returns : goal.returns
returns c =
    let x : List ℕ = c.args.x in
    elim c.if-are_opaque.branch [
      | then-are_opaque w ↦
          let yes = w.if-are_opaque.true in
          let is = c.are_opaque.ensures in
          let whole : replicate 16 65535 ≡ alphas_in x =
          opaque_alphas (get_or x 3 0) (get_or x 7 0) (get_or x 11 0) (get_or x 15 0) (is.three yes) (is.seven yes) (is.eleven yes) (is.fifteen yes) in
          let same : x ≡ zip2 (channel_quotient 65535) x (alphas_in x) = opaque_are 16 x c.fits-x.0 c.fits-x.1 ∙ ap (zip2 (channel_quotient 65535) x) whole in
          w.result-is ∙ sym (alphas_stay x c.fits-x.0) ∙ ap (λ (l : List ℕ). with_alphas l x) same
      | else-are_opaque w ↦ w.result-is ∙ elim w.if-are_repeated.branch [
        | then-are_repeated v ↦ v.result-is ∙ v.with_alphas_of.ensures ∙ ap (λ (l : List ℕ). with_alphas l x) v.divided.ensures
        | else-are_repeated v ↦ v.result-is ∙ v.with_alphas_of-else-are_repeated.ensures ∙ ap (λ (l : List ℕ). with_alphas l x) v.divided_by_any.ensures
      ]
    ]
