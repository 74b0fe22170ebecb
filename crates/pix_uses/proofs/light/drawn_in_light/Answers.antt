-- Of `drawn_in_light`: the pixels that no command reaches.
use Rattle.std.proofs.Common.{◌≡◌, ℕ, ◌<◌, ◌+◌, ◌*◌, List, [], length, map, refl, sym, ap, ◌∙◌, arith}
use Rattle.std.specs.Prelude.{slice_index_or}
use Rattle.std.proofs.lemmas.List.{length-map}
use Rattle.pix_chan.specs.Bits8.{ch8_numbered}
use Rattle.pix_chan.specs.declared.chan.bits8.Ch8.{Ch8}
use Rattle.pix_chan.specs.Modes.{AlphaMode}
use Rattle.pix_chan.specs.Modes as modes
use Rattle.pix_el.specs.Conversion.{Format}
use Rattle.pix_el.specs.Light.{in_light, as_srgb}
use Rattle.pix_el.proofs.Models.{placed_by_row}
use Rattle.pix_uses.proofs.Points.{place_in}
use Rattle.pix_uses.proofs.Lossless.{channel_fits, format_of}
use Rattle.pix_uses.proofs.LightAndBack.{back, alpha_apart, keeps, fits_at, shown_at, by_both, same_region, unreached}
use Rattle.pix_uses.proofs.light.drawn_in_light.Goals as goal

pub returns-clause-unpainted : goal.returns-clause-unpainted
returns-clause-unpainted g c =
    let of = λ (max count : ℕ) (mode : AlphaMode). format_of max count g.M.ColorModel.CIRCULAR g.M.ColorModel.LINEAR g.M.ColorModel.ALPHA g.M.ColorModel.KIND g.M.ColorModel.to_rgb g.M.ColorModel.of_rgb mode in
    let format : Format = of 255 g.row.N modes.Straight in
    let to : Format = of 65535 g.row.K modes.Premultiplied in
    let photo = c.args.photo.now in
    let light = c.in_ok-light.light in
    let placed = placed_by_row g.M.ColorModel.model _ g.met.M.ColorModel.stands in
    let long : length photo.pixels ≡ photo.height * photo.width = ap length (sym c.pixels.ensures.pixels) ∙ c.pixels.ensures.count in
    let counted = rw c.pixels.ensures.pixels at c.count_channels.ensures in
    by_both c.encode_srgb.result _ _ _ (λ shown size pixels x y hx hy none seen.
    let k : ℕ = y * photo.width + x in
    let pixel : List ℕ = slice_index_or (map (λ p. map (λ (v : Ch8). v.value) p.channels) photo.pixels) k [] in
    let fits = λ (ch : ℕ). fits_at _ photo.pixels k ch (λ p ch. channel_fits 255 (λ (v : Ch8). v.value) ch8_numbered.fits p.channels ch) in
    let inside : k < length (map (λ p. map (λ (v : Ch8). v.value) p.channels) photo.pixels) =
    omega (arith, place_in photo.width photo.height x y hx hy, length-map photo.pixels (λ p. map (λ (v : Ch8). v.value) p.channels), long) in
    let all : length pixel ≡ g.row.N = counted k [] inside in
    shown_at _ _ (as_srgb to format) (in_light format to) photo shown light _ _ x y hx hy size.0 c.in_ok-light.ensures.size.0 c.in_ok-light.ensures.size.1
    pixels c.run.ensures.fold c.in_ok-light.ensures.pixels long c.count_points.ensures
    (unreached _ _ _ _ _ c.args.commands.now x y _ (same_region light photo c.in_ok-light.ensures.size.0 c.in_ok-light.ensures.size.1) none)
    ∙ back format to pixel refl refl refl refl (alpha_apart g.M.ColorModel.LINEAR g.M.ColorModel.ALPHA placed.alpha_last) c.requires.more all fits
    (λ ch h. keeps g.M.ColorModel.ALPHA pixel seen fits ch (omega (arith, all, h))))
    c.encode_srgb.ensures.size c.encode_srgb.ensures.pixels
