-- Of `decode_blocks`: the clause `pixels`.
use Rattle.std.proofs.Common.{◌≡◌, ◌∙◌, take, sym, ap, map, refl, List, ℕ}
use Rattle.pix_chan.specs.Srgb16.{srgb_decoded16}
use Rattle.pix_el.specs.Planes.{linear_four, premultiplied_four}
use Rattle.pix_el.specs.Pixel.{Layout}
use Rattle.pix_el.specs.Light.{in_light}
use Rattle.pix_chan.proofs.Slices.{over-nil}
use Rattle.pix_el.proofs.Written.{over_alike}
use Rattle.pix_el.proofs.Models.{placed_by_row}
use Rattle.pix_el.proofs.InLight.{light_premultiplied}
use Rattle.pix_el.proofs.light.blocks.decode_blocks.Goals as goal

pub returns-clause-pixels : goal.returns-clause-pixels
returns-clause-pixels g c =
    let top = g.D.Chan.Channel.max in
    let made = in_light g.P.Pixel.format g.D.Pixel.format in
    let linear = linear_four g.P.Chan.Channel.max top srgb_decoded16 in
    let has = c.if-not-premultiplies.ensures in
    let laid = g.met.D.Pixel.laid_out in
    let placed = placed_by_row g.P.Model.ColorModel.model _ g.met.P.Model.ColorModel.stands in
    let alpha : g.P.Model.ColorModel.ALPHA ≡ 3 = sym (ap (λ (l : Layout). l.alpha) laid) ∙ has.alpha refl in
    let start : g.P.Model.ColorModel.LINEAR.start ≡ 0 = placed.linear_next ∙ sym (ap (λ (l : Layout). l.hues.end) laid) ∙ has.no_hue refl in
    let steps : (p : List ℕ) → premultiplied_four top (linear p) ≡ made p =
    λ p. light_premultiplied _ _ _ _ p g.met.P.Pixel.formatted g.met.D.Pixel.formatted
    (g.met.P.Alpha.Alpha.tabled ∙ has.straight refl) (g.met.D.Alpha.Alpha.tabled ∙ has.premultiplied refl)
    (has.count refl) alpha start (placed.alpha_last ∙ alpha) in
    c.premultiply_blocks.ensures.pixels
    ∙ over_alike (λ (p : List ℕ). premultiplied_four top (linear p)) made steps (take c.premultiply_blocks.result (map g.P.Pixel.numbers c.args.src.now)) (map g.D.Pixel.numbers c.args.dst.now)

pub returns-then-not-premultiplies-clause-pixels : goal.returns-then-not-premultiplies-clause-pixels
returns-then-not-premultiplies-clause-pixels g c = sym (over-nil _ (map g.D.Pixel.numbers c.args.dst.now))
