-- Of `opaque_to_premultiplied_and_back`: the pixel stays.
use Rattle.std.proofs.Common.{◌≡◌, ℕ, List, length, map, refl, sym, ap, ◌∙◌}
use Rattle.std.proofs.lemmas.List.{length-map}
use Rattle.pix_chan.specs.Laws.{known_laws}
use Rattle.pix_chan.specs.Modes as modes
use Rattle.pix_el.specs.Conversion.{Format, converted}
use Rattle.pix_el.specs.PixelLaws.{equal_by_numbers}
use Rattle.pix_uses.proofs.Lossless.{channel_fits, format_of, opaque_multiplied, opaque_divided}
use Rattle.pix_uses.proofs.conversions.opaque_to_premultiplied_and_back.Goals as goal

pub returns : goal.returns
returns g c =
    let n = g.C.Channel.number in
    let laws = g.met.C.Channel in
    let max = g.C.Channel.max in
    let pixel = c.args.p.channels in
    let long : length (map n pixel) ≡ g.row.N = length-map pixel n ∙ search in
    let of = format_of max g.row.N g.M.ColorModel.CIRCULAR g.M.ColorModel.LINEAR g.M.ColorModel.ALPHA g.M.ColorModel.KIND g.M.ColorModel.to_rgb g.M.ColorModel.of_rgb in
    let straight : Format = of modes.Straight in
    let premultiplied : Format = of modes.Premultiplied in
    let depth = (known_laws max laws.laws).depth in
    let fits = channel_fits max n laws.numbered.fits pixel in
    let stays : map n c.convert-2.result.channels ≡ map n pixel =
    c.convert-2.ensures ∙ ap (converted premultiplied modes.Linear straight modes.Linear)
    (c.convert.ensures ∙ opaque_multiplied straight premultiplied (map n pixel) refl refl refl refl depth laws.product_law.identity long fits c.requires.opaque)
    ∙ opaque_divided premultiplied straight (map n pixel) refl refl refl refl depth long fits c.requires.opaque
    in
    ap (λ w. record c.args.p { channels = w }) (equal_by_numbers n laws.numbered.injective c.convert-2.result.channels pixel stays)
