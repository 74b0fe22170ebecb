-- Of `light_and_back`: the pixel stays.
use Rattle.std.proofs.Common.{◌≡◌, ℕ, length, map, refl, ap, ◌∙◌}
use Rattle.std.proofs.lemmas.List.{length-map}
use Rattle.pix_chan.specs.Bits8.{ch8_numbered}
use Rattle.pix_chan.specs.declared.chan.bits8.Ch8.{Ch8}
use Rattle.pix_chan.specs.Modes.{AlphaMode}
use Rattle.pix_el.specs.Conversion.{Format}
use Rattle.pix_el.specs.Light.{as_srgb}
use Rattle.pix_el.specs.PixelLaws.{equal_by_numbers}
use Rattle.pix_el.proofs.Models.{placed_by_row}
use Rattle.pix_uses.proofs.Lossless.{channel_fits, format_of}
use Rattle.pix_uses.proofs.LightAndBack.{back, alpha_apart, same_mode_keeps}
use Rattle.pix_uses.proofs.light.light_and_back.Goals as goal

pub returns : goal.returns
returns g c =
    let n = λ (x : Ch8). x.value in
    let pixel = map n c.args.p.channels in
    let long : length pixel ≡ g.row.N = length-map c.args.p.channels n ∙ search in
    let of = λ (max count : ℕ) (mode : AlphaMode). format_of max count g.M.ColorModel.CIRCULAR g.M.ColorModel.LINEAR g.M.ColorModel.ALPHA g.M.ColorModel.KIND g.M.ColorModel.to_rgb g.M.ColorModel.of_rgb mode in
    let format : Format = of 255 g.row.N g.A.Alpha.mode in
    let to : Format = of 65535 g.row.K g.A.Alpha.mode in
    let fits = channel_fits 255 n ch8_numbered.fits c.args.p.channels in
    let placed = placed_by_row g.M.ColorModel.model _ g.met.M.ColorModel.stands in
    let stays : map n c.encode_srgb.result.channels ≡ pixel =
    c.encode_srgb.ensures ∙ ap (as_srgb to format) c.decode_srgb.ensures
    ∙ back format to pixel refl refl refl refl (alpha_apart g.M.ColorModel.LINEAR g.M.ColorModel.ALPHA placed.alpha_last) c.requires.more long fits
    (λ ch h. same_mode_keeps g.A.Alpha.mode _ _ (fits ch))
    in
    ap (λ w. record c.args.p { channels = w }) (equal_by_numbers n ch8_numbered.injective c.encode_srgb.result.channels c.args.p.channels stays)
