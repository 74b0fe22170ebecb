use Rattle.std.proofs.Common.{◌≡◌, ℕ, ◌+◌, ℤ, pos, ◌+ℤ◌, ◌-ℤ◌, ◌∙◌, List, [], ◌∷◌, ap, sym, subst}
use Rattle.pix_chan.specs.declared.chan.modes.Linear.{Linear}
use Rattle.pix_el.specs.declared.el.Pix.{Pix}
use Rattle.pix_el.specs.declared.matte.Matte.{Matte}
use Rattle.pix_chan.specs.Product.{channel_product, fineness, IsProduct}
use Rattle.pix_el.specs.Pixel.{Layout}
use Rattle.pix_el.specs.PixelComposite.{matted_composite, matte_numbers, matte_value}
use Rattle.pix_el.specs.Premultiplied.{IsBounded}
use Rattle.pix_el.specs.Transparent.{IsUnchanged}
use Rattle.pix_el.proofs.Composited.{Fits, channels_fit, alpha_bounded}
use Rattle.pix_el.proofs.Models.{placed_by_row}
use Rattle.pix_raster.specs.Image.{point, region_of, Changed}
use Rattle.pix_raster.specs.Reach.{is_paired, natural}
use Rattle.pix_raster.specs.Run.{Composited, run_at}
use Rattle.pix_raster.specs.declared.command.Command.TheVariants as commands
use Rattle.pix_raster.proofs.Opacity.{whole_matte, no_matte, unchanged_where, faded_change}
use Rattle.pix_raster.proofs.RunBounds.{IsFormat, point_fits}
use Rattle.pix_raster.proofs.Steps.{changed_where_paired}
use Rattle.pix_raster.proofs.raster.Raster.composite_raster_alpha.Goals as goal

pub returns : goal.returns
returns g c =
    let n = g.P.Pixel.numbers in
    let op = g.O.Blend.op in
    let layout : Layout = g.P.Pixel.layout in
    let top = g.P.Chan.Channel.max in
    let number = g.P.Chan.Channel.number in
    let numbered = g.met.P.Chan.Channel.numbered in
    let matte : List ℕ = matte_numbers number c.args.alpha in
    let old = c.args.self.now in
    let new = c.composite_faded.new.self in
    let src = c.args.src.now in
    let layout' : Layout = record { max = top; count = layout.count; hues = g.P.Model.ColorModel.CIRCULAR; alpha = g.P.Model.ColorModel.ALPHA } in
    let laid_out : layout ≡ layout' = g.met.P.Pixel.laid_out in
    let has_alpha : layout'.count ≡ layout'.alpha + 1 = c.requires.has_alpha ∙ ap (λ (l : Layout). l.alpha + 1) laid_out in
    let mattes = λ (m : Pix g.row.N g.row.P-Chan.Denot Matte g.row.A.Denot Linear). matte_numbers number m in
    let format : IsFormat layout n mattes =
    record {
      laws = subst (λ (l : Layout). IsProduct fineness l.max (channel_product l.max)) (sym laid_out) g.met.P.Chan.Channel.product_law;
      alpha = subst (λ (l : Layout). IsBounded l l.alpha) (sym laid_out) (alpha_bounded layout' g.P.Model.ColorModel.LINEAR (placed_by_row g.P.Model.ColorModel.model _ g.met.P.Model.ColorModel.stands) has_alpha);
      fit = λ p. subst (λ (l : Layout). Fits l.max (n p)) (sym laid_out) (rw (g.met.P.Pixel.numbered p) (channels_fit top number (g.P.Pixel.channel_list p) numbered));
      mattes_fit = λ m. subst (λ (l : Layout). Fits l.max (mattes m)) (sym laid_out) (channels_fit top number m.channels numbered);
    } in
    let ran : Changed n old new (run_at layout n mattes (region_of old) (commands.RasterAlpha c.args.to c.args.src c.args.from c.args.alpha op ∷ [])) = c.composite_faded.ensures in
    let value : ℕ = matte_value layout matte in
    let changed = faded_change layout n mattes old new c.args.to c.args.from c.args.src c.args.alpha op ran in
    record {
      change = ran;
      whole = λ all. changed_where_paired layout n n old new c.args.to c.args.from src _ (Composited op) changed
          (λ s p. ap (λ z. matted_composite layout op z s p) all ∙ whole_matte layout format.laws format.alpha op s p);
      none = λ none keeps x y lx ly.
          let i : ℤ = pos x -ℤ c.args.to.left in
          let j : ℤ = pos y -ℤ c.args.to.top in
          let pixel : List ℕ = point n old x y in
          let source : List ℕ = point n src (natural (c.args.from.left +ℤ i)) (natural (c.args.from.top +ℤ j)) in
          let same : IsUnchanged layout pixel (matted_composite layout op value source pixel) =
          subst (λ (z : ℕ). IsUnchanged layout pixel (matted_composite layout op z source pixel)) (sym none)
          (no_matte layout format.laws format.alpha op source pixel (point_fits layout.max n src (natural (c.args.from.left +ℤ i)) (natural (c.args.from.top +ℤ j)) format.fit) (point_fits layout.max n old x y format.fit) keeps) in
          subst (λ (made : List ℕ). IsUnchanged layout pixel made) (sym (changed.points x y lx ly))
          (unchanged_where layout (matted_composite layout op value) source pixel (is_paired c.args.to (region_of old) c.args.from (region_of src) i j) same);
    }
