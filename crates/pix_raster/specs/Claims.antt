-- All that is claimed of a run of commands on an image.
use Rattle.std.specs.Prelude.{ℕ, List}
use Rattle.pix_ops.specs.ExactRun.{IsWithinBudget, IsWithinPremultipliedBound, HasSmallBudget}
use Rattle.pix_el.specs.Pixel.{Layout}
use Rattle.pix_raster.specs.Image.{Image, Changed, region_of}
use Rattle.pix_raster.specs.Run.{run_at, HasSwappedNeighbours}
use Rattle.pix_raster.specs.Bounds.{OfEachChannel}
use Rattle.pix_raster.specs.PremultipliedRuns.{KeepsPremultiplied}
use Rattle.pix_raster.specs.Stays.{StaysUnderTransparent}
use Rattle.pix_raster.specs.declared.command.Command.{Command}

-- The claims on a run of commands on an image. `numbers` reads a pixel, and `mattes` a matte.
pub record IsImageRun {D M : Type 0} (layout : Layout) (numbers : D → List ℕ) (mattes : M → List ℕ) (commands : List (Command D M))
    (old new : Image D) : Type 0 where
  -- at each point, the effects of just those commands that reach it, one after the other
  pub fold : Changed numbers old new (run_at layout numbers mattes (region_of old) commands)
  -- two neighbours that reach no common point may be swapped
  pub swapped : (others : List (Command D M)) → HasSwappedNeighbours numbers mattes old commands others
      → Changed numbers old new (run_at layout numbers mattes (region_of old) others)
  -- where every color and source pixel that reaches a premultiplied pixel is premultiplied, the
  -- pixel stays premultiplied, and only the sum of `Plus` ever saturates
  pub premultiplied : KeepsPremultiplied layout numbers mattes commands old new
  -- each channel lies within its rounding budget of the exact run
  pub within_budget : OfEachChannel layout numbers mattes commands old new (IsWithinBudget layout.max)
  -- the budgets after n unmatted commands are at most n² + n, and at most n after those of the
  -- listed kinds
  pub small_budget : OfEachChannel layout numbers mattes commands old new (λ _ effects _. HasSmallBudget effects)
  -- with premultiplied sources the bound is twice the count of products
  pub premultiplied_bound : OfEachChannel layout numbers mattes commands old new (IsWithinPremultipliedBound layout.max)
  -- a pixel that only transparent sources under `SrcOver` reach stays as it was
  pub transparent : StaysUnderTransparent layout numbers mattes commands old new
