-- Of `gray_to_rgb_and_back`: the pixel stays.
use Rattle.std.proofs.Common.{◌≡◌, ℕ, List, length, map, refl, sym, ap, ◌∙◌}
use Rattle.std.proofs.lemmas.List.{length-map}
use Rattle.pix_chan.specs.Laws.{known_laws}
use Rattle.pix_el.specs.Conversion.{Format, converted}
use Rattle.pix_el.specs.PixelLaws.{equal_by_numbers}
use Rattle.pix_uses.proofs.Lossless.{channel_fits, rgb_of, gray_of, gray_and_back}
use Rattle.pix_uses.proofs.conversions.gray_to_rgb_and_back.Goals as goal

pub returns : goal.returns
returns g c =
    let n = g.C.Channel.number in
    let laws = g.met.C.Channel in
    let max = g.C.Channel.max in
    let mode = g.A.Alpha.mode in
    let gamma = g.G.Gamma.mode in
    let pixel = c.args.p.channels in
    let long : length (map n pixel) ≡ g.row.N = length-map pixel n ∙ search in
    let stays : map n c.convert.result.channels ≡ map n pixel =
    c.convert.ensures ∙ ap (converted (rgb_of max 4 mode) gamma (gray_of max g.row.N mode) gamma) c.convert-color.ensures
    ∙ gray_and_back max mode gamma g.row.N (map n pixel) long c.requires.gray c.requires.few (known_laws max laws.laws).depth
    (channel_fits max n laws.numbered.fits pixel)
    in
    ap (λ w. record c.args.p { channels = w }) (equal_by_numbers n laws.numbered.injective c.convert.result.channels pixel stays)
