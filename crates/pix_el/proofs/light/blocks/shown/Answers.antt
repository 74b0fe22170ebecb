use Rattle.std.proofs.Common.{◌≡◌, ap, ◌∙◌, refl}
use Rattle.pix_el.specs.Conversion.{Format}
use Rattle.pix_el.proofs.Conversions.{few_channels}
use Rattle.pix_el.proofs.InLight.{four_of}
use Rattle.pix_el.proofs.LightBlocks.{shown_color, shown_rest}
use Rattle.pix_el.proofs.light.blocks.shown.Goals as goal

pub returns : goal.returns
returns g c =
    let format : Format = g.P.Pixel.format in
    let to : Format = g.D.Pixel.format in
    let p = g.P.Pixel.numbers c.args.p.now in
    let max = g.P.Chan.Channel.max in
    let few = few_channels g.D.Pixel.layout _ g.met.D.Pixel.laid_out g.met.P.Model.ColorModel.few c.requires.few in
    let em = ap (λ (f : Format). f.layout.max) g.met.P.Pixel.formatted in
    let ef = ap (λ (f : Format). f.alpha_mode) g.met.P.Pixel.formatted in
    let to_is = g.met.D.Pixel.formatted in
    let et = ap (λ (f : Format). f.alpha_mode) to_is in
    let ea = ap (λ (f : Format). f.layout.alpha) to_is ∙ c.requires.alpha in
    let start : to.colors.start ≡ 0 = ap (λ (f : Format). f.colors.start) to_is ∙ c.requires.start in
    let end : to.colors.end ≡ 3 = ap (λ (f : Format). f.colors.end) to_is ∙ c.requires.end in
    let levels = c.requires.levels in
    c.from_four.ensures ∙ four_of _ to g.D.Pixel.layout _ _ _ _ _ (ap (λ (f : Format). f.layout) to_is) g.met.D.Pixel.laid_out few
    (shown_color format to p 0 max _ _ _ _ em ef et ea (rw (start, end) refl) levels.first)
    (shown_color format to p 1 max _ _ _ _ em ef et ea (rw (start, end) refl) levels.second)
    (shown_color format to p 2 max _ _ _ _ em ef et ea (rw (start, end) refl) levels.third)
    (shown_rest format to p 3 max g.D.Chan.Channel.max _ em (ap (λ (f : Format). f.layout.max) to_is) (rw (start, end) refl) c.channel_at_depth.ensures)
