-- Of `to_bgr_and_back`: the pixel stays.
use Rattle.std.proofs.Common.{◌≡◌, ℕ, List, length, map, refl, sym, ap, ◌∙◌, arith, ◌≤◌, ◌-◌}
use Rattle.std.proofs.lemmas.List.{length-map}
use Rattle.pix_chan.specs.Laws.{known_laws}
use Rattle.pix_el.specs.Conversion.{Format, converted}
use Rattle.pix_el.specs.PixelLaws.{equal_by_numbers}
use Rattle.pix_color.specs.Bgr.{reversed}
use Rattle.pix_uses.proofs.Lossless.{channel_fits, Inverse, rgb_of, other_of, rgb_and_back}
use Rattle.pix_uses.proofs.conversions.to_bgr_and_back.Goals as goal

pub returns : goal.returns
returns g c =
    let n = g.C.Channel.number in
    let laws = g.met.C.Channel in
    let max = g.C.Channel.max in
    let mode = g.A.Alpha.mode in
    let gamma = g.G.Gamma.mode in
    let pixel = c.args.p.channels in
    let long : length (map n pixel) ≡ g.row.N = length-map pixel n ∙ search in
    let to : Format = other_of 6 max g.row.N reversed reversed mode in
    let stays : map n c.convert-2.result.channels ≡ map n pixel =
    c.convert-2.ensures ∙ ap (converted to gamma (rgb_of max g.row.N mode) gamma) c.convert.ensures
    ∙ rgb_and_back 6 max reversed reversed mode gamma g.row.N (map n pixel) long c.requires.colors c.requires.few refl refl (known_laws max laws.laws).depth
    (channel_fits max n laws.numbered.fits pixel) (λ r g b hr hg hb. record { one = b; two = g; three = r; made = refl; fits = (hb, hg, hr); again = refl })
    in
    ap (λ w. record c.args.p { channels = w }) (equal_by_numbers n laws.numbered.injective c.convert-2.result.channels pixel stays)
