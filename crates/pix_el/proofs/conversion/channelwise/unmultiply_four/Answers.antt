use Rattle.std.proofs.Common.{◌∙◌, sym, ap, map, refl, arith, List, ℕ}
use Rattle.std.proofs.lemmas.List.{length-map}
use Rattle.std.proofs.lemmas.Simd.{map-map}
use Rattle.pix_chan.specs.Product.{channel_quotient}
use Rattle.pix_el.specs.Planes.{by_fours}
use Rattle.pix_el.specs.Unmultiplied.{unmultiplied_four}
use Rattle.pix_el.specs.Conversion.{of_depth, converted}
use Rattle.pix_el.proofs.Conversions.{map_alike}
use Rattle.pix_el.proofs.LightBlocks.{fours_made}
use Rattle.pix_el.proofs.conversion.channelwise.unmultiply_four.Goals as goal

pub returns : goal.returns
returns g c =
    let max = g.D.Chan.Channel.max in
    let v = g.D.Chan.Channel.number in
    let straight : List ℕ → List ℕ = unmultiplied_four max in
    let deep : List ℕ → List ℕ = of_depth g.P.Pixel.layout g.D.Pixel.layout in
    let convert : List ℕ → List ℕ = converted g.P.Pixel.format g.P.Gamma.Gamma-2.mode g.D.Pixel.format g.D.Gamma.Gamma.mode in
    let from : List (List ℕ) = map g.P.Pixel.numbers c.args.src.now in
    c.put_four_pixels.ensures.pixels ∙ ap by_fours c.unmultiplied4.ensures
    ∙ fours_made straight (channel_quotient max) (λ w x y z. refl) 4 (map v c.four_at_depth.result) (length-map c.four_at_depth.result v ∙ omega arith)
    ∙ ap (map straight) c.four_at_depth.ensures
    ∙ map-map straight deep from
    ∙ map_alike (λ p. straight (deep p)) convert (λ p. sym (c.requires.steps p)) from
