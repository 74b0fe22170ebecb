-- The run of a list of commands at one point.
use Rattle.std.specs.Prelude.{◌≡◌, ◌<◌, ◌⊎◌, ℕ, pos, List, [], ◌∷◌, ◌++◌, map, fold, replicate, if◌then◌else◌}
use Rattle.std.specs.List.{zip}
use Rattle.pix_ops.specs.declared.ops.Op.{Op}
use Rattle.pix_ops.specs.declared.ops.Op.TheVariants.{Src}
use Rattle.pix_el.specs.Pixel.{Layout}
use Rattle.pix_el.specs.PixelComposite.{pixel_composite, matted_composite, matte_value}
use Rattle.pix_raster.specs.Region.{Rectangle, covers}
use Rattle.pix_raster.specs.Image.{Image, point, region_of}
use Rattle.pix_raster.specs.Reach.{from_pair}
use Rattle.pix_raster.specs.declared.command.Command.{Command}
use Rattle.pix_raster.specs.declared.command.Command.TheVariants as commands

-- the effect of a command at a point that it reaches: a clear pixel, a copied pixel, or a source
-- composited with the pixel there, without a matte or through one
pub data Effect : Type 0 where
  Cleared : Effect
  Copied : (source : List ℕ) → Effect
  Composited : (op : Op) (source : List ℕ) → Effect
  Matted : (op : Op) (matte source : List ℕ) → Effect

-- The effect of a command at the point (x, y) of a destination, none where it does not reach the
-- point; `numbers` reads a pixel, and `mattes` a pixel of a raster of mattes. An image is
-- composited through a mask where the point is paired with a point of the mask and with one of the
-- image, and an opacity is a matte of that value at each of them.
abbrev pub effect_at : {P M : Type 0} → (P → List ℕ) → (M → List ℕ) → Rectangle → Command P M → ℕ → ℕ → List Effect
effect_at numbers mattes dest commands.Clear x y = Cleared ∷ []
effect_at numbers mattes dest (commands.CopyColor reg clr) x y = if covers reg (pos x) (pos y) then Copied (numbers clr) ∷ [] else []
effect_at numbers mattes dest (commands.CopyRaster to src from) x y =
    from_pair to dest from (region_of src.now) (λ a b. Copied (point numbers src.now a b)) x y
effect_at numbers mattes dest (commands.Color reg clr op) x y = if covers reg (pos x) (pos y) then Composited op (numbers clr) ∷ [] else []
effect_at numbers mattes dest (commands.Raster to src from op) x y =
    from_pair to dest from (region_of src.now) (λ a b. Composited op (point numbers src.now a b)) x y
effect_at numbers mattes dest (commands.Matte to src from clr op) x y =
    from_pair to dest from (region_of src.now) (λ a b. Matted op (point mattes src.now a b) (numbers clr)) x y
effect_at numbers mattes dest (commands.RasterMatte to src from mask mask_from op) x y =
    map (λ t. Matted op t.0 t.1) (zip (from_pair to dest mask_from (region_of mask.now) (point mattes mask.now) x y)
    (from_pair to dest from (region_of src.now) (point numbers src.now) x y))
effect_at numbers mattes dest (commands.RasterAlpha to src from alpha op) x y =
    from_pair to dest from (region_of src.now) (λ a b. Matted op (mattes alpha) (point numbers src.now a b)) x y

-- the effects of just those commands that reach the point, in their order
abbrev pub effects_at : {P M : Type 0} → (P → List ℕ) → (M → List ℕ) → Rectangle → List (Command P M) → ℕ → ℕ → List Effect
effects_at numbers mattes dest [] x y = []
effects_at numbers mattes dest (command ∷ commands) x y = effect_at numbers mattes dest command x y ++ effects_at numbers mattes dest commands x y

-- a pixel after an effect
abbrev pub apply : Layout → List ℕ → Effect → List ℕ
apply layout pixel Cleared = replicate layout.count 0
apply layout pixel (Copied source) = source
apply layout pixel (Composited op source) = pixel_composite layout op source pixel
apply layout pixel (Matted op matte source) = matted_composite layout op (matte_value layout matte) source pixel

-- the run of a list of commands at the point (x, y): of the pixel there, the effects that reach it
-- one after the other
abbrev pub run_at : {P M : Type 0} → Layout → (P → List ℕ) → (M → List ℕ) → Rectangle → List (Command P M) → ℕ → ℕ → List ℕ → List ℕ
run_at layout numbers mattes dest commands x y pixel = fold (apply layout) pixel (effects_at numbers mattes dest commands x y)

-- the operator of a command, Src for one that does not composite
abbrev pub op_of : {P M : Type 0} → Command P M → Op
op_of (commands.Color reg clr op) = op
op_of (commands.Raster to src from op) = op
op_of (commands.Matte to src from clr op) = op
op_of (commands.RasterMatte to src from mask mask_from op) = op
op_of (commands.RasterAlpha to src from alpha op) = op
op_of command = Src

-- the same for one command that takes no mattes
abbrev pub done_at : {P : Type 0} → Layout → (P → List ℕ) → Rectangle → Command P P → ℕ → ℕ → List ℕ → List ℕ
done_at layout numbers dest command = run_at layout numbers numbers dest (command ∷ [])

-- the two commands are disjoint: they reach no common point of the image
abbrev pub AreDisjoint : {P M : Type 0} → (P → List ℕ) → (M → List ℕ) → Image P → Command P M → Command P M → Type 0
AreDisjoint numbers mattes image one two =
    (x y : ℕ) → x < image.width → y < image.height
    → (effect_at numbers mattes (region_of image) one x y ≡ []) ⊎ (effect_at numbers mattes (region_of image) two x y ≡ [])

-- the two lists have the same commands, but for two disjoint neighbours that are swapped
pub record HasSwappedNeighbours {P M : Type 0} (numbers : P → List ℕ) (mattes : M → List ℕ) (image : Image P) (commands others : List (Command P M)) : Type 0 where
  pub before : List (Command P M)
  pub one : Command P M
  pub two : Command P M
  pub after : List (Command P M)
  pub here : commands ≡ before ++ (one ∷ two ∷ after)
  pub there : others ≡ before ++ (two ∷ one ∷ after)
  pub disjoint : AreDisjoint numbers mattes image one two
