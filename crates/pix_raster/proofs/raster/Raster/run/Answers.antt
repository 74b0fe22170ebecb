use Rattle.std.specs.Vec.{with_items}
use Rattle.std.proofs.lemmas.List.{with_items_is, map-id}
use Rattle.pix_raster.specs.Run.{run_at}
use Rattle.pix_raster.specs.View.{ChangedIn, largest}
use Rattle.pix_raster.specs.declared.view.Shape.{Shape}
use Rattle.std.proofs.Common.{ℕ, List, rules, ◌≡◌, ◌≤◌, ◌+◌, map, arith, ap, sym, subst, ◌∙◌}
use Rattle.pix_raster.specs.Region.{limit}
use Rattle.pix_raster.specs.Window.{command_from}
use Rattle.pix_raster.specs.Claims.{IsImageRun}
use Rattle.pix_chan.specs.Product.{channel_product, fineness, IsProduct}
use Rattle.pix_el.specs.Pixel.{Layout}
use Rattle.pix_el.specs.PixelComposite.{matte_numbers}
use Rattle.pix_el.specs.Premultiplied.{IsBounded}
use Rattle.pix_el.proofs.Models.{placed_by_row}
use Rattle.pix_el.proofs.Composited.{Fits, channels_fit, alpha_bounded}
use Rattle.pix_raster.proofs.RunBounds.{IsFormat}
use Rattle.pix_raster.proofs.Claimed.{claimed_in_window}
use Rattle.pix_raster.proofs.Seen.{commands_there}
use Rattle.pix_raster.proofs.raster.Raster.run.Goals as goal

pub paint_by_bands-requires-clause-can_paint : goal.paint_by_bands-requires-clause-can_paint
paint_by_bands-requires-clause-can_paint g c = (c.requires.has_alpha, λ k d lt. tt)

pub returns : goal.returns
returns g c =
    let layout = g.P.Pixel.layout in
    let n = g.P.Pixel.numbers in
    let max = g.P.Chan.Channel.max in
    let number = g.P.Chan.Channel.number in
    let mattes = matte_numbers number in
    let cs = c.args.commands.now in
    let inside = c.self.inside in
    let across : 0 + inside.width ≤ limit = omega (arith, c.self.invariant.1) in
    let down : 0 + inside.height ≤ limit = omega (arith, c.self.invariant.2) in
    let shape : Shape = record { width = inside.width; height = inside.height; stride = inside.width } in
    let made : ℕ → ℕ → List ℕ → List ℕ = λ x y. run_at layout n mattes largest cs (0 + x) (0 + y) in
    let painted : ChangedIn n shape inside.pixels.items (with_items inside.pixels c.paint_by_bands.new.pixels).items made =
    rw (with_items_is inside.pixels c.paint_by_bands.new.pixels (search rules)) (rw (map-id cs, c.window-window.ensures.value, c.deref_mut.ensures.value, ← c.self.view_is) at c.paint_by_bands.ensures) in
    let numbered = g.met.P.Chan.Channel.numbered in
    let layout' : Layout = record { max = max; count = layout.count; hues = g.P.Model.ColorModel.CIRCULAR; alpha = g.P.Model.ColorModel.ALPHA } in
    let laid_out : layout ≡ layout' = g.met.P.Pixel.laid_out in
    let has_alpha : layout'.count ≡ layout'.alpha + 1 = c.requires.has_alpha ∙ ap (λ (l : Layout). l.alpha + 1) laid_out in
    let format : IsFormat layout n mattes =
    record {
      laws = subst (λ (l : Layout). IsProduct fineness l.max (channel_product l.max)) (sym laid_out) g.met.P.Chan.Channel.product_law;
      alpha = subst (λ (l : Layout). IsBounded l l.alpha) (sym laid_out) (alpha_bounded layout' g.P.Model.ColorModel.LINEAR (placed_by_row g.P.Model.ColorModel.model _ g.met.P.Model.ColorModel.stands) has_alpha);
      fit = λ p. subst (λ (l : Layout). Fits l.max (n p)) (sym laid_out) (rw (g.met.P.Pixel.numbered p) (channels_fit max number (g.P.Pixel.channel_list p) numbered));
      mattes_fit = λ m. subst (λ (l : Layout). Fits l.max (mattes m)) (sym laid_out) (channels_fit max number m.channels numbered);
    } in
    let claimed : IsImageRun layout n mattes (map (command_from 0 0) cs) (record { width = inside.width; height = inside.height; pixels = inside.pixels.items })
    (record { width = inside.width; height = inside.height; pixels = (with_items inside.pixels c.paint_by_bands.new.pixels).items }) =
    claimed_in_window layout n mattes 0 0 cs inside.width inside.height inside.pixels.items (with_items inside.pixels c.paint_by_bands.new.pixels).items across down format painted in
    let ran = rw (commands_there cs) at claimed in
    rw (← c.self.view_is) (record {
      fold = ran.fold;
      swapped = ran.swapped;
      premultiplied = ran.premultiplied;
      within_budget = ran.within_budget;
      small_budget = ran.small_budget;
      premultiplied_bound = ran.premultiplied_bound;
      transparent = ran.transparent;
    })
