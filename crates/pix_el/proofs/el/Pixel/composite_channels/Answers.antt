use Rattle.std.proofs.Common.{◌≡◌, ◌-◌, ◌+◌, ℕ, List, map, subst, arith, sym, ap, ◌∙◌, refl}
use Rattle.pix_el.specs.Pixel.{Layout, alpha_of}
use Rattle.pix_el.specs.PixelComposite.{pixel_composite}
use Rattle.pix_el.specs.ExactPixel.{HuesMove}
use Rattle.pix_el.specs.Premultiplied.{IsBounded}
use Rattle.pix_el.specs.Transparent.{IsUnchanged}
use Rattle.pix_ops.specs.declared.ops.Op.{Op}
use Rattle.pix_el.proofs.Models.{placed_by_row}
use Rattle.pix_el.proofs.Composited.{Fits, channels_fit, alpha_bounded, made_near_exact, made_premultiplied, composite_uncut, transparent_over}
use Rattle.pix_el.proofs.el.Pixel.composite_channels.Goals as goal

pub returns : goal.returns
returns g c =
    let layout : Layout = record { max = g.Self.Chan.Channel.max; count = g.Self.Pixel.layout.count; hues = g.Self.Model.ColorModel.CIRCULAR; alpha = g.Self.Model.ColorModel.ALPHA } in
    let laid_out : g.Self.Pixel.layout ≡ layout = g.met.Self.Pixel.laid_out in
    let number = g.Self.Chan.Channel.number in
    let op = g.O.Blend.op in
    let n = g.Self.Pixel.numbers in
    let src = c.args.src.now in
    let dst = c.args.self.now in
    let new = g.Self.Pixel.with_channel_list dst c.composite_each.new.dst in
    let laws = g.met.Self.Chan.Channel.product_law in
    let numbered = g.met.Self.Chan.Channel.numbered in
    let src_is = g.met.Self.Pixel.numbered src in
    let dst_is = g.met.Self.Pixel.numbered dst in
    let src_fits : Fits layout.max (n src) = rw src_is (channels_fit layout.max number (g.Self.Pixel.channel_list src) numbered) in
    let dst_fits : Fits layout.max (n dst) = rw dst_is (channels_fit layout.max number (g.Self.Pixel.channel_list dst) numbered) in
    let has_alpha : layout.count ≡ layout.alpha + 1 = c.requires.has_alpha ∙ ap (λ (l : Layout). l.alpha + 1) laid_out in
    let alpha : IsBounded layout layout.alpha = alpha_bounded layout g.Self.Model.ColorModel.LINEAR (placed_by_row g.Self.Model.ColorModel.model _ g.met.Self.Model.ColorModel.stands) has_alpha in
    let src_channels : n src ≡ map number c.channels.result.now = src_is ∙ ap (map number) (sym c.channels.ensures.channels) in
    let dst_channels : n dst ≡ map number c.channels_mut.result.now = dst_is ∙ ap (map number) (sym c.channels_mut.ensures.channels) in
    let new_channels : n new ≡ map number c.composite_each.new.dst = g.met.Self.Pixel.numbered new ∙ ap (map number) (g.met.Self.Pixel.with_list dst c.composite_each.new.dst) in
    let greatest : number c.MAX.result ≡ layout.max = ap number c.MAX.ensures ∙ g.met.Self.Chan.Channel.max_is_maximum in
    let rest : number c.sub-da1.result ≡ number c.MAX.result - number c.alpha.result = g.met.Self.Chan.Channel.differs c.MAX.result c.alpha.result c.sub-da1.result c.sub-da1.ensures in
    let sa : number c.alpha-sa.result ≡ alpha_of layout (n src) = c.alpha-sa.ensures in
    let da : layout.max - number c.sub-da1.result ≡ alpha_of layout (n dst) = omega (arith, greatest, rest, c.alpha.ensures, dst_fits.at layout.alpha) in
    let is : n new ≡ pixel_composite layout op (n src) (n dst) = new_channels ∙ c.composite_each.ensures.composite ∙ rw (c.channels_mut.ensures.count, sa, da, src_channels, dst_channels) refl in
    let moves : HuesMove layout op (n src) (n dst) (n new) = λ ch lt hue.
    rw (← sa, ← da, src_channels, dst_channels, new_channels) (c.composite_each.ensures.moves ch (omega (arith, c.channels_mut.ensures.count)) hue) in
    rw laid_out (record {
      composite = is;
      near = made_near_exact layout op (n src) (n dst) (n new) laws is src_fits dst_fits;
      hues = moves;
      premultiplied = made_premultiplied layout op (n src) (n dst) (n new) laws is alpha;
      uncut = composite_uncut layout op (n src) (n dst) laws src_fits dst_fits;
      transparent = λ over none.
          subst (λ (made : List ℕ). IsUnchanged layout (n dst) made) (sym (is ∙ ap (λ (o : Op). pixel_composite layout o (n src) (n dst)) over))
          (transparent_over layout (n src) (n dst) laws alpha dst_fits none);
    })
