-- Of `to_sixteen_bits_and_back`: the pixel stays.
use Rattle.std.proofs.Common.{◌≡◌, ℕ, List, length, map, refl, sym, ap, ◌∙◌}
use Rattle.std.proofs.lemmas.List.{length-map}
use Rattle.pix_chan.specs.Laws.{known_laws}
use Rattle.pix_chan.specs.Modes as modes
use Rattle.pix_el.specs.Conversion.{Format, of_depth, converted}
use Rattle.pix_el.specs.PixelLaws.{equal_by_numbers}
use Rattle.pix_uses.proofs.Lossless.{channel_fits, depth_alone, sixteen_and_back, format_of}
use Rattle.pix_uses.proofs.conversions.to_sixteen_bits_and_back.Goals as goal

pub returns : goal.returns
returns g c =
    let n = g.C.Channel.number in
    let laws = g.met.C.Channel in
    let pixel = c.args.p.channels in
    let long : length (map n pixel) ≡ g.row.N = length-map pixel n ∙ search in
    let of = λ (max : ℕ). format_of max g.row.N g.M.ColorModel.CIRCULAR g.M.ColorModel.LINEAR g.M.ColorModel.ALPHA g.M.ColorModel.KIND g.M.ColorModel.to_rgb g.M.ColorModel.of_rgb g.A.Alpha.mode in
    let format : Format = of g.C.Channel.max in
    let deep : Format = of 65535 in
    let stays : map n c.convert-2.result.channels ≡ map n pixel =
    c.convert-2.ensures ∙ ap (converted deep modes.Linear format modes.Linear) (c.convert.ensures ∙ depth_alone format deep modes.Linear (map n pixel) refl refl)
    ∙ depth_alone deep format modes.Linear (of_depth format.layout deep.layout (map n pixel)) refl refl
    ∙ sixteen_and_back format.layout deep.layout (map n pixel) refl refl (known_laws g.C.Channel.max laws.laws).depth long
    (channel_fits g.C.Channel.max n laws.numbered.fits pixel)
    in
    ap (λ w. record c.args.p { channels = w }) (equal_by_numbers n laws.numbered.injective c.convert-2.result.channels pixel stays)
