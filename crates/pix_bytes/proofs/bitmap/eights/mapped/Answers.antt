use Rattle.std.proofs.Common.{◌∙◌, ◌∷◌, [], ◌++◌, List, ℕ, Bool, ap, sym, arith, take}
use Rattle.std.proofs.lemmas.List.{take_all}
use lib.Lanes.{zip2, pick_l}
use Rattle.pix_chan.specs.Product.{channel_product}
use Rattle.pix_bytes.specs.Recolored.{colors_from, alphas_from, recolored_from}
use Rattle.pix_bytes.proofs.Recolorings.{made_products}
use Rattle.pix_bytes.proofs.bitmap.eights.mapped.Goals as goal
use Rattle.pix_bytes.proofs.bitmap.eights.mapped.Goals.{then-is_premultiplied, else-is_premultiplied}

-- the places of three colors of each pixel, and of its alpha in the second vector
abbrev places : List ℕ
places = 0 ∷ 1 ∷ 2 ∷ 35 ∷ 4 ∷ 5 ∷ 6 ∷ 39 ∷ 8 ∷ 9 ∷ 10 ∷ 43 ∷ 12 ∷ 13 ∷ 14 ∷ 47 ∷ 16 ∷ 17 ∷ 18 ∷ 51 ∷ 20 ∷ 21 ∷ 22 ∷ 55 ∷ 24 ∷ 25 ∷ 26 ∷ 59 ∷ 28 ∷ 29 ∷ 30 ∷ 63 ∷ []

pub returns : goal.returns
returns g c =
    let curve = g.T.Table.curve in
    let r = c.args.is_reversed in
    let bytes = c.args.bytes.now in
    let all = take_all 32 bytes (omega arith) in
    elim c.if-is_premultiplied.branch [
      | then-is_premultiplied w ↦
          w.result-is ∙ w.products.ensures
          ∙ ap (λ (l : List ℕ). zip2 (channel_product 255) l w.alphas.result) w.opaque.ensures
          ∙ ap (zip2 (channel_product 255) (colors_from curve r 4 255 bytes 0 8)) (w.alphas.ensures ∙ ap (λ (l : List ℕ). alphas_from l 0 8) all)
          ∙ made_products curve r bytes 0 8
          ∙ ap (λ (m : Bool). recolored_from curve r m bytes 0 8) (sym w.if-is_premultiplied.true)
      | else-is_premultiplied w ↦
          w.result-is
          ∙ ap (λ (l : List ℕ). pick_l 0 (l ++ take 32 bytes) places) w.entries.ensures
          ∙ ap (λ (l : List ℕ). pick_l 0 (colors_from curve r 4 0 bytes 0 8 ++ l) places) all
          ∙ ap (λ (m : Bool). recolored_from curve r m bytes 0 8) (sym w.if-is_premultiplied.false)
    ]
