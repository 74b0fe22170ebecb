use Rattle.std.proofs.Common.{◌≡◌, ◌+◌, ◌≤◌, ℕ, List, map, sym, ap, subst, ◌∙◌, refl}
use Rattle.pix_el.specs.Pixel.{Layout}
use Rattle.pix_el.specs.PixelComposite.{pixel_composite, matted_color, matted_composite}
use Rattle.pix_el.specs.ExactPixel.{HuesMove}
use Rattle.pix_el.specs.Premultiplied.{IsBounded}
use Rattle.pix_el.specs.Transparent.{IsUnchanged}
use Rattle.pix_ops.specs.declared.ops.Op.{Op}
use Rattle.pix_el.proofs.Models.{placed_by_row}
use Rattle.pix_el.proofs.Composited.{Fits, channels_fit, matted_fits, alpha_bounded, made_near_exact_matted, made_premultiplied, matted_premultiplied, composite_uncut, transparent_over, matted_transparent}
use Rattle.pix_el.proofs.el.Pixel.composite_channels_alpha.Goals as goal

pub returns : goal.returns
returns g c =
    let layout : Layout = record { max = g.Self.Chan.Channel.max; count = g.Self.Pixel.layout.count; hues = g.Self.Model.ColorModel.CIRCULAR; alpha = g.Self.Model.ColorModel.ALPHA } in
    let laid_out : g.Self.Pixel.layout ≡ layout = g.met.Self.Pixel.laid_out in
    let number = g.Self.Chan.Channel.number in
    let op = g.O.Blend.op in
    let n = g.Self.Pixel.numbers in
    let matte = number c.args.alpha.now in
    let src = c.args.src.now in
    let dst = c.args.self.now in
    let color = g.Self.Pixel.with_channel_list src c.scale_each.new.channels in
    let new = c.composite_channels.new.self in
    let laws = g.met.Self.Chan.Channel.product_law in
    let numbered = g.met.Self.Chan.Channel.numbered in
    let src_is = g.met.Self.Pixel.numbered src in
    let dst_is = g.met.Self.Pixel.numbered dst in
    let src_fits : Fits layout.max (n src) = rw src_is (channels_fit layout.max number (g.Self.Pixel.channel_list src) numbered) in
    let dst_fits : Fits layout.max (n dst) = rw dst_is (channels_fit layout.max number (g.Self.Pixel.channel_list dst) numbered) in
    let matte_fits : matte ≤ layout.max = numbered.fits c.args.alpha.now in
    let has_alpha : layout.count ≡ layout.alpha + 1 = c.requires.has_alpha ∙ ap (λ (l : Layout). l.alpha + 1) laid_out in
    let alpha : IsBounded layout layout.alpha = alpha_bounded layout g.Self.Model.ColorModel.LINEAR (placed_by_row g.Self.Model.ColorModel.model _ g.met.Self.Model.ColorModel.stands) has_alpha in
    let src_channels : n src ≡ map number c.channels_mut.result.now = src_is ∙ ap (map number) (sym c.channels_mut.ensures.channels) in
    let color_channels : n color ≡ map number c.scale_each.new.channels = g.met.Self.Pixel.numbered color ∙ ap (map number) (g.met.Self.Pixel.with_list src c.scale_each.new.channels) in
    let scaled : n color ≡ matted_color layout matte (n src) = color_channels ∙ c.scale_each.ensures ∙ rw (c.channels_mut.ensures.count, src_channels) refl in
    let made : n new ≡ pixel_composite layout op (n color) (n dst) = subst (λ (l : Layout). n new ≡ pixel_composite l op (n color) (n dst)) laid_out c.composite_channels.ensures.composite in
    let is : n new ≡ matted_composite layout op matte (n src) (n dst) = made ∙ ap (λ (s : List ℕ). pixel_composite layout op s (n dst)) scaled in
    let moves : HuesMove layout op (n color) (n dst) (n new) = subst (λ (l : Layout). HuesMove l op (n color) (n dst) (n new)) laid_out c.composite_channels.ensures.hues in
    rw laid_out (record {
      composite = is;
      near = made_near_exact_matted layout op matte (n src) (n dst) (n new) laws is src_fits matte_fits dst_fits alpha;
      hues = subst (λ (s : List ℕ). HuesMove layout op s (n dst) (n new)) scaled moves;
      premultiplied = λ ps pd. made_premultiplied layout op (matted_color layout matte (n src)) (n dst) (n new) laws is alpha (matted_premultiplied layout matte (n src) laws alpha ps) pd;
      uncut = λ ps pd fits.
          composite_uncut layout op (matted_color layout matte (n src)) (n dst) laws (matted_fits layout matte (n src) laws src_fits matte_fits) dst_fits
          (matted_premultiplied layout matte (n src) laws alpha ps) pd fits;
      transparent = λ over none.
          subst (λ (made : List ℕ). IsUnchanged layout (n dst) made)
          (sym (is ∙ ap (λ (o : Op). matted_composite layout o matte (n src) (n dst)) over))
          (transparent_over layout (matted_color layout matte (n src)) (n dst) laws alpha dst_fits (matted_transparent layout matte (n src) laws matte_fits none));
    })
