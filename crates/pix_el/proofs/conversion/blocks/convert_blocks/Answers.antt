-- Of `convert_blocks`: the clause `pixels`.
use Rattle.std.proofs.Common.{◌≡◌, ◌∙◌, take, sym, ap, map, refl, arith, List, ℕ}
use Rattle.pix_chan.specs.Modes.{to_linear}
use Rattle.pix_el.specs.Planes.{linear_four, premultiplied_four}
use Rattle.pix_el.specs.Pixel.{Layout}
use Rattle.pix_el.specs.Conversion.{at_depth, converted}
use Rattle.pix_el.proofs.MattePlanes.{next_run}
use Rattle.pix_el.proofs.Written.{over_alike}
use Rattle.pix_el.proofs.Models.{placed_by_row}
use Rattle.pix_el.proofs.Conversions.{converted_premultiplied}
use Rattle.pix_el.proofs.conversion.blocks.convert_blocks.Goals as goal

pub returns-then-deepens-clause-pixels : goal.returns-then-deepens-clause-pixels
returns-then-deepens-clause-pixels g c =
    let first = c.deepen_blocks-start in
    let second = c.convert_fours in
    next_run g.D.Pixel.numbers g.P.Pixel.numbers (λ p d. converted g.P.Pixel.format g.P.Gamma.Gamma-2.mode g.D.Pixel.format g.D.Gamma.Gamma.mode p)
    first.result second.result c.args.dst.now first.new.dst second.new.dst c.args.src.now first.ensures.pixels (omega arith) second.ensures.pixels

pub returns-clause-pixels : goal.returns-clause-pixels
returns-clause-pixels g c =
    let top = g.D.Chan.Channel.max in
    let curve : ℕ → ℕ = λ x. to_linear g.P.Gamma.Gamma-2.mode (at_depth g.P.Chan.Channel.max top x) in
    let convert = converted g.P.Pixel.format g.P.Gamma.Gamma-2.mode g.D.Pixel.format g.D.Gamma.Gamma.mode in
    let linear = linear_four g.P.Chan.Channel.max top curve in
    let has = c.if-not-premultiplies.ensures in
    let laid = g.met.D.Pixel.laid_out in
    let placed = placed_by_row g.D.Model.ColorModel.model _ g.met.D.Model.ColorModel.stands in
    let alpha : g.D.Model.ColorModel.ALPHA ≡ 3 = sym (ap (λ (l : Layout). l.alpha) laid) ∙ has.alpha refl in
    let start : g.D.Model.ColorModel.LINEAR.start ≡ 0 = placed.linear_next ∙ sym (ap (λ (l : Layout). l.hues.end) laid) ∙ has.no_hue refl in
    let steps : (p : List ℕ) → premultiplied_four top (linear p) ≡ convert p =
    λ p. sym (converted_premultiplied _ _ _ _ g.P.Gamma.Gamma-2.mode g.D.Gamma.Gamma.mode p g.met.P.Pixel.formatted g.met.D.Pixel.formatted (has.model refl)
    (g.met.P.Alpha.Alpha.tabled ∙ has.straight refl) (g.met.D.Alpha.Alpha.tabled ∙ has.premultiplied refl) (g.met.D.Gamma.Gamma.tabled ∙ has.linear refl)
    (has.count refl) alpha start (placed.alpha_last ∙ alpha)) in
    c.premultiply_blocks.ensures.pixels
    ∙ over_alike (λ (p : List ℕ). premultiplied_four top (linear p)) convert steps (take c.premultiply_blocks.result (map g.P.Pixel.numbers c.args.src.now)) (map g.D.Pixel.numbers c.args.dst.now)
