-- Of `to_its_own`: the pixel stays.
use Rattle.std.proofs.Common.{◌≡◌, ℕ, List, length, map, refl, sym, ap, ◌∙◌}
use Rattle.std.proofs.lemmas.List.{length-map}
use Rattle.pix_chan.specs.Laws.{known_laws}
use Rattle.pix_el.specs.Conversion.{Format, converted}
use Rattle.pix_el.specs.PixelLaws.{equal_by_numbers}
use Rattle.pix_uses.proofs.Lossless.{channel_fits, itself, format_of}
use Rattle.pix_uses.proofs.conversions.to_its_own.Goals as goal

pub returns : goal.returns
returns g c =
    let n = g.C.Channel.number in
    let laws = g.met.C.Channel in
    let long : length (map n c.args.p.channels) ≡ g.row.N = length-map c.args.p.channels n ∙ search in
    let format = format_of g.C.Channel.max g.row.N g.M.ColorModel.CIRCULAR g.M.ColorModel.LINEAR g.M.ColorModel.ALPHA g.M.ColorModel.KIND g.M.ColorModel.to_rgb g.M.ColorModel.of_rgb g.A.Alpha.mode in
    let stays : map n c.convert.result.channels ≡ map n c.args.p.channels =
    c.convert.ensures ∙ itself format g.G.Gamma.mode (map n c.args.p.channels) (known_laws g.C.Channel.max laws.laws).depth long
    (channel_fits g.C.Channel.max n laws.numbered.fits c.args.p.channels)
    in
    ap (λ w. record c.args.p { channels = w })
    (equal_by_numbers n laws.numbered.injective c.convert.result.channels c.args.p.channels stays)
