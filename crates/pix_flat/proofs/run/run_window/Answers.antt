-- Of `run_window`: the clause `run`, and the conditions of its call of `paint_by_bands`.
use Rattle.std.proofs.Common.{◌≡◌, ℕ, ◌≤◌, ◌+◌, length, map, sym, ap, ◌∙◌, subst}
use Rattle.pix_chan.specs.Product.{channel_product, fineness, IsProduct}
use Rattle.pix_el.specs.Pixel.{Layout, channel}
use Rattle.pix_el.specs.Premultiplied.{IsBounded}
use Rattle.pix_el.proofs.Models.{placed_by_row}
use Rattle.pix_el.proofs.Composited.{alpha_bounded}
use Rattle.pix_raster.proofs.RunBounds.{IsFormat}
use Rattle.pix_flat.proofs.Images.{sized_is_shaped, sized_window}
use Rattle.pix_flat.proofs.Ran.{ran_in_window}
use Rattle.pix_flat.proofs.run.run_window.Goals as goal

pub paint_by_bands-requires-clause-fits : goal.paint_by_bands-requires-clause-fits
paint_by_bands-requires-clause-fits g c =
    let placed = sized_window c.args.left c.args.top c.args.width c.args.height c.args.stride (length c.args.pixels.now) (sym c.is_window.ensures ∙ c.if-not-is_window.false) in
    record {
      shaped = sized_is_shaped c.args.width c.args.height c.args.stride (length c.args.pixels.now) placed.2;
      across = placed.0;
      down = placed.1;
    }

pub paint_by_bands-requires-clause-can_paint : goal.paint_by_bands-requires-clause-can_paint
paint_by_bands-requires-clause-can_paint g c = sym c.first_fault-fault.ensures.fault ∙ c.if-fault-eq-DONE.true

pub returns-then-fault-eq-DONE-clause-run : goal.returns-then-fault-eq-DONE-clause-run
returns-then-fault-eq-DONE-clause-run g c =
    let n = g.D.Stored.reads in
    let mattes = g.M.Coverage.numbers in
    let max = g.P.Chan.Channel.max in
    let layout' : Layout = record { max = max; count = g.P.Pixel.layout.count; hues = g.P.Model.ColorModel.CIRCULAR; alpha = g.P.Model.ColorModel.ALPHA } in
    let laid_out : g.P.Pixel.layout ≡ layout' = g.met.P.Pixel.laid_out in
    let has_alpha : layout'.count ≡ layout'.alpha + 1 = g.met.D.FlatPixel.has_alpha ∙ ap (λ (l : Layout). l.alpha + 1) laid_out in
    let format : IsFormat g.P.Pixel.layout n mattes =
    record {
      laws = subst (λ (l : Layout). IsProduct fineness l.max (channel_product l.max)) (sym laid_out) g.met.P.Chan.Channel.product_law;
      alpha = subst (λ (l : Layout). IsBounded l l.alpha) (sym laid_out) (alpha_bounded layout' g.P.Model.ColorModel.LINEAR (placed_by_row g.P.Model.ColorModel.model _ g.met.P.Model.ColorModel.stands) has_alpha);
      fit = λ p. record { at = g.met.D.Stored.fits p };
      mattes_fit = λ m. record { at = subst (λ (l : Layout). (ch : ℕ) → channel l.max (mattes m) ch ≤ l.max) (sym laid_out) (g.met.M.Coverage.fits m) };
    } in
    let placed = sized_window c.args.left c.args.top c.args.width c.args.height c.args.stride (length c.args.pixels.now) (sym c.is_window.ensures ∙ c.if-not-is_window.false) in
    λ e. ran_in_window g.P.Pixel.layout n mattes c.args.left c.args.top c.args.width c.args.height c.args.stride (map g.C.Flatten.flat c.args.commands.now) c.args.pixels.now c.paint_by_bands.new.pixels
    format placed.0 placed.1 (sized_is_shaped c.args.width c.args.height c.args.stride (length c.args.pixels.now) placed.2) c.paint_by_bands.auto.pixels
    c.paint_by_bands.ensures
