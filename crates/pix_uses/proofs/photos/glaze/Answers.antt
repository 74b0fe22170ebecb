-- Of `glaze`: the clause `pixels`.
use Rattle.std.proofs.Common.{◌≡◌, ℕ, List, length, map, refl, sym, ap, ◌∙◌}
use Rattle.std.proofs.lemmas.List.{length-map}
use Rattle.std.proofs.lemmas.Result.{IfOk-weaker}
use Rattle.pix_ops.specs.declared.ops.Op.TheVariants.{SrcOver}
use Rattle.pix_el.specs.PixelComposite.{pixel_composite}
use Rattle.pix_el.specs.Light.{in_light, as_srgb}
use Rattle.pix_uses.specs.Photos.{LightPixel, light_numbers, rgba16, rgba16p, srgb8, colors, glazed}
use Rattle.pix_uses.proofs.Steps.{refill_whole, three_maps}
use Rattle.pix_uses.proofs.photos.glaze.Goals as goal

pub returns-clause-pixels : goal.returns-clause-pixels
returns-clause-pixels c =
    let light : List LightPixel = c.in_ok-light.light.pixels in
    let made : List LightPixel = c.composite_color.new.dst in
    let decode : List ℕ → List ℕ = in_light srgb8 rgba16p in
    let composite : List ℕ → List ℕ = pixel_composite rgba16 SrcOver (light_numbers c.args.clr) in
    let encode : List ℕ → List ℕ = as_srgb rgba16p srgb8 in
    let photo : List (List ℕ) = map colors c.args.photo.now.pixels in
    let done : map light_numbers made ≡ map composite (map light_numbers light) = c.composite_color.ensures ∙ ap (λ (l : List LightPixel). map composite (map light_numbers l)) c.pixels_mut.ensures.now in
    let long : length made ≡ length light = sym (length-map made light_numbers) ∙ ap length done ∙ length-map (map light_numbers light) composite ∙ length-map light light_numbers in
    let stands = ap (λ (l : List LightPixel). map encode (map light_numbers l)) (refill_whole (length light) light made long) in
    let steps : map encode (map light_numbers made) ≡ map (glazed (light_numbers c.args.clr)) photo =
    ap (map encode) (done ∙ ap (map composite) c.in_ok-light.ensures.pixels) ∙ three_maps encode composite decode photo in
    IfOk-weaker c.encode_srgb.result _ _ (λ shown e. e ∙ stands ∙ steps) c.encode_srgb.ensures.pixels
