-- Transparent sources over a pixel change no channel of it.
use Rattle.std.proofs.Common.{ℕ, List, [], ◌∷◌, refl, sym, subst, ◌∙◌}
use Rattle.std.specs.Prelude.{All, fold}
use Rattle.std.proofs.lemmas.List.Elements.{All-head, All-tail}
use Rattle.pix_ops.specs.declared.ops.Op.{Op}
use Rattle.pix_chan.specs.Product.{channel_product, fineness, IsProduct}
use Rattle.pix_el.specs.Pixel.{Layout}
use Rattle.pix_el.specs.PixelComposite.{pixel_composite, matted_color, matte_value}
use Rattle.pix_el.specs.Premultiplied.{IsBounded}
use Rattle.pix_el.specs.Transparent.{IsUnchanged}
use Rattle.pix_el.proofs.Composited.{Fits, composite_fits, transparent_over, matted_transparent}
use Rattle.pix_raster.specs.Image.{Image, Changed, point, region_of}
use Rattle.pix_raster.specs.Run.{Effect, Cleared, Copied, Composited, Matted, effects_at, apply, run_at}
use Rattle.pix_raster.specs.Stays.{IsTransparentOver, StaysUnderTransparent}
use Rattle.pix_raster.specs.declared.command.Command.{Command}
use Rattle.pix_raster.proofs.RunBounds.{IsFormat, IsFit, effects_fit, point_fits}

-- one such effect on a pixel
effect_unchanged : (layout : Layout) (pixel : List ℕ) (effect : Effect) → IsProduct fineness layout.max (channel_product layout.max) → IsBounded layout layout.alpha
    → Fits layout.max pixel → IsFit layout effect → IsTransparentOver layout effect
    → Fits layout.max (apply layout pixel effect) × IsUnchanged layout pixel (apply layout pixel effect)
effect_unchanged layout pixel Cleared laws a fd fs none = absurd none
effect_unchanged layout pixel (Copied source) laws a fd fs none = absurd none
effect_unchanged layout pixel (Composited op source) laws a fd fs none = (
  composite_fits layout op source pixel laws,
  subst (λ (o : Op). IsUnchanged layout pixel (pixel_composite layout o source pixel)) (sym none.0) (transparent_over layout source pixel laws a fd none.1),
)
effect_unchanged layout pixel (Matted op matte source) laws a fd fs none =
    let value : ℕ = matte_value layout matte in
    let color : List ℕ = matted_color layout value source in (
      composite_fits layout op color pixel laws,
      subst (λ (o : Op). IsUnchanged layout pixel (pixel_composite layout o color pixel)) (sym none.0)
          (transparent_over layout color pixel laws a fd (matted_transparent layout value source laws (fs.0.at 0) none.1)),
    )

-- a list of them
effects_unchanged : (layout : Layout) (pixel : List ℕ) (effects : List Effect) → IsProduct fineness layout.max (channel_product layout.max) → IsBounded layout layout.alpha
    → Fits layout.max pixel → All (IsFit layout) effects → All (IsTransparentOver layout) effects → IsUnchanged layout pixel (fold (apply layout) pixel effects)
effects_unchanged layout pixel [] laws a fd fs none = λ ch lt. refl
effects_unchanged layout pixel (effect ∷ effects) laws a fd fs none =
    let one = effect_unchanged layout pixel effect laws a fd (All-head (IsFit layout) effect effects fs) (All-head (IsTransparentOver layout) effect effects none) in
    let rest = effects_unchanged layout (apply layout pixel effect) effects laws a one.0 (All-tail (IsFit layout) effect effects fs) (All-tail (IsTransparentOver layout) effect effects none) in
    λ ch lt. rest ch lt ∙ one.1 ch lt

-- a run of them at a point
pub stays_under_transparent : {P M : Type 0} (layout : Layout) (n : P → List ℕ) (m : M → List ℕ) (cs : List (Command P M)) (old new : Image P) → IsFormat layout n m
    → Changed n old new (run_at layout n m (region_of old) cs) → StaysUnderTransparent layout n m cs old new
stays_under_transparent layout n m cs old new format changed = λ x y hx hy none.
    subst (λ (made : List ℕ). IsUnchanged layout (point n old x y) made) (sym (changed.points x y hx hy))
    (effects_unchanged layout (point n old x y) (effects_at n m (region_of old) cs x y) format.laws format.alpha (point_fits layout.max n old x y format.fit)
    (effects_fit layout n m (region_of old) cs x y format) none)
