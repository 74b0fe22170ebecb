-- Of `still_premultiplied`: each channel is at most the alpha.
use Rattle.std.proofs.Common.{◌≡◌, ℕ, List, sym, subst, ap, ◌∙◌, ◌≤◌}
use Rattle.pix_el.specs.Pixel.{Layout, channel}
use Rattle.pix_el.specs.Premultiplied.{IsPremultiplied}
use Rattle.pix_el.specs.Conversion.{Format, of_depth}
use Rattle.pix_uses.proofs.Lossless.{channel_fits, depth_alone, premultiplied_at_depth}
use Rattle.pix_uses.proofs.conversions.still_premultiplied.Goals as goal

pub returns : goal.returns
returns g c =
    let from = g.P.Pixel in
    let to = g.D.Pixel in
    let one = g.met.P.Pixel in
    let two = g.met.D.Pixel in
    let pixel = from.numbers c.args.p in
    let kinds : from.format.kind ≡ to.format.kind = ap (λ (f : Format). f.kind) one.formatted ∙ sym (ap (λ (f : Format). f.kind) two.formatted) in
    let modes : from.format.alpha_mode ≡ to.format.alpha_mode = ap (λ (f : Format). f.alpha_mode) one.formatted ∙ sym (ap (λ (f : Format). f.alpha_mode) two.formatted) in
    let first : from.format.layout ≡ from.layout = ap (λ (f : Format). f.layout) one.formatted ∙ sym one.laid_out in
    let second : to.format.layout ≡ to.layout = ap (λ (f : Format). f.layout) two.formatted ∙ sym two.laid_out in
    let hues : to.layout.hues ≡ from.layout.hues = ap (λ (l : Layout). l.hues) two.laid_out ∙ sym (ap (λ (l : Layout). l.hues) one.laid_out) in
    let alpha : to.layout.alpha ≡ from.layout.alpha = ap (λ (l : Layout). l.alpha) two.laid_out ∙ sym (ap (λ (l : Layout). l.alpha) one.laid_out) in
    let made : to.numbers c.convert.result ≡ of_depth from.layout to.layout pixel =
    c.convert.ensures ∙ depth_alone from.format to.format _ pixel kinds modes
    ∙ ap (λ (l : Layout). of_depth l to.format.layout pixel) first ∙ ap (λ (l : Layout). of_depth from.layout l pixel) second in
    let max : to.layout.max ≡ g.D.Chan.Channel.max = ap (λ (l : Layout). l.max) two.laid_out in
    let own : (ch : ℕ) → channel to.layout.max (to.numbers c.convert.result) ch ≤ to.layout.max =
    λ ch. rw (two.numbered c.convert.result, max) (channel_fits g.D.Chan.Channel.max g.D.Chan.Channel.number g.met.D.Chan.Channel.numbered.fits (to.channel_list c.convert.result) ch) in
    subst (IsPremultiplied to.layout) (sym made)
    (premultiplied_at_depth from.layout to.layout pixel hues alpha c.requires.as_many
    (subst (λ (l : List ℕ). (ch : ℕ) → channel to.layout.max l ch ≤ to.layout.max) made own) c.requires.premultiplied)
