-- Commands do the same wherever in memory their sources are.
use Rattle.std.proofs.Common.{◌≡◌, ℕ, ◌+◌, List, [], ◌∷◌, ◌++◌, refl, ap, ◌∙◌, subst, fold}
use Rattle.pix_ops.specs.declared.ops.Op.{Op}
use Rattle.pix_el.specs.Pixel.{Layout}
use Rattle.pix_raster.specs.Region.{Rectangle}
use Rattle.pix_raster.specs.Run.{Effect, effect_at, apply, run_at, op_of}
use Rattle.pix_raster.specs.View.{ChangedIn, picture, in_window}
use Rattle.pix_raster.specs.declared.view.Window.{Window}
use Rattle.pix_raster.specs.declared.view.draw.Draw.{Draw}
use Rattle.pix_raster.proofs.Shaped.{changed_alike}
use Rattle.pix_raster.specs.declared.command.Command.{Command}
use Rattle.pix_raster.specs.declared.command.Command.TheVariants as commands
use Rattle.pix_raster.specs.Draw.{command_in, unplaced}

effect_unplaced : {P M : Type 0} (n : P → List ℕ) (m : M → List ℕ) (dest : Rectangle) (c : Command P M) (x y : ℕ) → effect_at n m dest (unplaced c) x y ≡ effect_at n m dest c x y
effect_unplaced n m dest commands.Clear x y = refl
effect_unplaced n m dest (commands.CopyColor reg clr) x y = refl
effect_unplaced n m dest (commands.CopyRaster to src from) x y = refl
effect_unplaced n m dest (commands.Color reg clr op) x y = refl
effect_unplaced n m dest (commands.Raster to src from op) x y = refl
effect_unplaced n m dest (commands.Matte to src from clr op) x y = refl
effect_unplaced n m dest (commands.RasterMatte to src from mask mask_from op) x y = refl
effect_unplaced n m dest (commands.RasterAlpha to src from alpha op) x y = refl

-- the run of a command is that of the same command with its sources elsewhere
pub run_unplaced : {P M : Type 0} (layout : Layout) (n : P → List ℕ) (m : M → List ℕ) (dest : Rectangle) (c : Command P M) (x y : ℕ) (pixel : List ℕ)
    → run_at layout n m dest (unplaced c ∷ []) x y pixel ≡ run_at layout n m dest (c ∷ []) x y pixel
run_unplaced layout n m dest c x y pixel = ap (λ (es : List Effect). fold (apply layout) pixel (es ++ [])) (effect_unplaced n m dest c x y)

-- what is made of a window by the drawing of a command is what the command makes of it
pub made_as_told : {D M : Type 0} (layout : Layout) (n : D → List ℕ) (m : M → List ℕ) (window : Window) (old new : List D) (op : Op) (draw : Draw D M) (command : Command D M)
    → op ≡ op_of command → command_in (op_of command) draw ≡ unplaced command
    → ChangedIn n window.shape old new (in_window window (run_at layout n m (picture window) (command_in op draw ∷ [])))
    → ChangedIn n window.shape old new (in_window window (run_at layout n m (picture window) (command ∷ [])))
made_as_told {D = D} {M = M} layout n m window old new op draw command is same made =
    let told : command_in op draw ≡ unplaced command = ap (λ (o : Op). command_in o draw) is ∙ same in
    changed_alike n window.shape old new _ _
    (λ x y pixel lx ly. run_unplaced layout n m (picture window) command (window.left + x) (window.top + y) pixel)
    (subst (λ (k : Command D M). ChangedIn n window.shape old new (in_window window (run_at layout n m (picture window) (k ∷ [])))) told made)
