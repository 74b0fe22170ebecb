use Rattle.std.proofs.Common.{◌≡◌, ◌∙◌, List, ℕ, replicate, ap, refl, sym, get_or}
use Rattle.std.specs.List.{range_with_len}
use lib.Lanes.{zip2}
use Rattle.pix_chan.specs.Product.{channel_quotient}
use Rattle.pix_chan.specs.LaneQuotients.{alphas_in}
use Rattle.pix_chan.proofs.LaneQuotients.{opaque_are, opaque_alphas}
use Rattle.pix_bytes.specs.Shown.{straight_light}
use Rattle.pix_bytes.specs.BitmapFormats.{samples}
use Rattle.pix_bytes.proofs.ShownFours.{samples_fit}
use Rattle.pix_bytes.proofs.bitmap.levels.straight.Goals as goal
use Rattle.pix_bytes.proofs.bitmap.levels.straight.Goals.{then-are_opaque, else-are_opaque, then-are_repeated, else-are_repeated}

pub returns : goal.returns
returns c =
    let bytes : List ℕ = c.args.bytes.now in
    let x : List ℕ = c.channels-x.result in
    let made : zip2 (channel_quotient 65535) x (alphas_in x) ≡ straight_light bytes =
    ap (λ (l : List ℕ). zip2 (channel_quotient 65535) l (alphas_in l)) c.channels-x.ensures in
    elim c.if-are_opaque.branch [
      | then-are_opaque w ↦
          let yes = w.if-are_opaque.true in
          let is = c.are_opaque.ensures in
          let whole : replicate 16 65535 ≡ alphas_in x =
          opaque_alphas (get_or x 3 0) (get_or x 7 0) (get_or x 11 0) (get_or x 15 0) (is.three yes) (is.seven yes) (is.eleven yes) (is.fifteen yes) in
          let xs : List ℕ = samples 65535 16 bytes in
          let opaque : x ≡ zip2 (channel_quotient 65535) x (replicate 16 65535) =
          c.channels-x.ensures ∙ opaque_are 16 xs refl (samples_fit bytes (range_with_len 0 16) c.type_inv.bytes)
          ∙ ap (λ (l : List ℕ). zip2 (channel_quotient 65535) l (replicate 16 65535)) (sym c.channels-x.ensures) in
          w.result-is ∙ opaque ∙ ap (zip2 (channel_quotient 65535) x) whole ∙ made
      | else-are_opaque w ↦ w.result-is ∙ elim w.if-are_repeated.branch [
        | then-are_repeated v ↦ v.result-is ∙ v.divided_by_bytes.ensures ∙ made
        | else-are_repeated v ↦ v.result-is ∙ v.straight_by_any.ensures ∙ made
      ]
    ]
