use Rattle.std.proofs.Common.{◌≡◌, ◌∙◌, ap, arith, map, List, ℕ}
use Rattle.std.proofs.lemmas.List.{length-map}
use Rattle.pix_chan.specs.Runs.{over}
use Rattle.pix_chan.specs.Number.{saturating_sum}
use Rattle.pix_chan.specs.Product.{channel_product}
use Rattle.pix_el.specs.Planes.{by_fours, premultiplied_four}
use Rattle.pix_el.proofs.FourPlanes.{numbers_fit}
use Rattle.pix_el.proofs.FourPixels.{ones, fours_premultiplied}
use Rattle.pix_el.proofs.planes.rgba_x4.premultiply_four.Goals as goal

pub returns : goal.returns
returns g c =
    let max = g.P.Chan.Channel.max in
    let v = g.P.Chan.Channel.number in
    let laws = g.met.P.Chan.Channel in
    let cs = map v c.four_pixels-to.result in
    let lo = v c.MIN-min.result in
    let hi = v c.MAX-max.result in
    let lo_is : lo ≡ 0 = ap v c.MIN-min.ensures ∙ laws.min_is_zero in
    let hi_is : hi ≡ max = ap v c.MAX-max.ensures ∙ laws.max_is_maximum in
    c.put_four_pixels.ensures.pixels
    ∙ ap by_fours (c.mul_run.ensures
    ∙ ap (λ (l : List ℕ). over (λ y x. channel_product max x y) l cs) (c.add_run.ensures
    ∙ ap (over (λ y x. saturating_sum max x y) (ones lo hi 4)) c.alphas4-by.ensures))
    ∙ fours_premultiplied max lo hi lo_is hi_is laws.product_law.identity 4 cs (omega (arith, length-map c.four_pixels-to.result v)) (numbers_fit max v laws.numbered c.four_pixels-to.result)
    ∙ ap (map (premultiplied_four max)) c.four_pixels-to.ensures
