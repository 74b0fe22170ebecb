-- What commands do to a point does not depend on how far the picture goes on to the right of it and
-- below it.
use Rattle.std.proofs.Common.{◌≡◌, ℕ, ◌<◌, ◌≤◌, pos, ◌+ℤ◌, ◌-ℤ◌, Bool, true, List, [], ◌∷◌, map, fold, cond, arith, refl, ap, sym, ◌∙◌}
use Rattle.std.specs.List.{zip}
use Rattle.std.proofs.lemmas.Int.{ints}
use Rattle.pix_el.specs.Pixel.{Layout}
use Rattle.pix_raster.specs.Region.{Rectangle, limit, covers, whole}
use Rattle.pix_raster.specs.Image.{point, region_of}
use Rattle.pix_raster.specs.Reach.{is_paired, from_pair, natural}
use Rattle.pix_raster.specs.Run.{Effect, Copied, Composited, Matted, effect_at, effects_at, apply, run_at}
use Rattle.pix_raster.specs.declared.command.Command.{Command}
use Rattle.pix_raster.specs.declared.command.Command.TheVariants as commands
use Rattle.pix_raster.proofs.Rectangles.{covers_point}

-- a point that lies in two pictures is paired alike in both
paired_alike : (to dest other from source : Rectangle) (x y : ℕ) → covers dest (pos x) (pos y) ≡ covers other (pos x) (pos y)
    → is_paired to dest from source (pos x -ℤ to.left) (pos y -ℤ to.top) ≡ is_paired to other from source (pos x -ℤ to.left) (pos y -ℤ to.top)
paired_alike to dest other from source x y e =
    let across : (to.left +ℤ (pos x -ℤ to.left)) ≡ pos x = omega (arith, ints) in
    let down : (to.top +ℤ (pos y -ℤ to.top)) ≡ pos y = omega (arith, ints) in
    rw (across, down, e) refl

pair_alike : {X : Type 0} (to dest other from source : Rectangle) (get : ℕ → ℕ → X) (x y : ℕ) → covers dest (pos x) (pos y) ≡ covers other (pos x) (pos y)
    → from_pair to dest from source get x y ≡ from_pair to other from source get x y
pair_alike {X = X} to dest other from source get x y e =
    ap (λ (b : Bool). cond b (get (natural (from.left +ℤ (pos x -ℤ to.left))) (natural (from.top +ℤ (pos y -ℤ to.top))) ∷ []) []) (paired_alike to dest other from source x y e)

effect_alike : {P M : Type 0} (n : P → List ℕ) (m : M → List ℕ) (dest other : Rectangle) (command : Command P M) (x y : ℕ)
    → covers dest (pos x) (pos y) ≡ covers other (pos x) (pos y) → effect_at n m dest command x y ≡ effect_at n m other command x y
effect_alike n m dest other commands.Clear x y e = refl
effect_alike n m dest other (commands.CopyColor reg clr) x y e = refl
effect_alike n m dest other (commands.CopyRaster to src from) x y e =
    pair_alike to dest other from (region_of src.now) (λ a b. Copied (point n src.now a b)) x y e
effect_alike n m dest other (commands.Color reg clr op) x y e = refl
effect_alike n m dest other (commands.Raster to src from op) x y e =
    pair_alike to dest other from (region_of src.now) (λ a b. Composited op (point n src.now a b)) x y e
effect_alike n m dest other (commands.Matte to src from clr op) x y e =
    pair_alike to dest other from (region_of src.now) (λ a b. Matted op (point m src.now a b) (n clr)) x y e
effect_alike n m dest other (commands.RasterMatte to src from mask mask_from op) x y e =
    let made = λ (mattes sources : List (List ℕ)). map (λ t. Matted op t.0 t.1) (zip mattes sources) in
    let get = point n src.now in
    let get_mask = point m mask.now in
    ap (λ l. made l (from_pair to dest from (region_of src.now) get x y)) (pair_alike to dest other mask_from (region_of mask.now) get_mask x y e)
    ∙ ap (made (from_pair to other mask_from (region_of mask.now) get_mask x y)) (pair_alike to dest other from (region_of src.now) get x y e)
effect_alike n m dest other (commands.RasterAlpha to src from alpha op) x y e =
    pair_alike to dest other from (region_of src.now) (λ a b. Matted op (m alpha) (point n src.now a b)) x y e

effects_alike : {P M : Type 0} (n : P → List ℕ) (m : M → List ℕ) (dest other : Rectangle) (cs : List (Command P M)) (x y : ℕ)
    → covers dest (pos x) (pos y) ≡ covers other (pos x) (pos y) → effects_at n m dest cs x y ≡ effects_at n m other cs x y
effects_alike n m dest other [] x y e = refl
effects_alike n m dest other (command ∷ cs) x y e = rw (effect_alike n m dest other command x y e, effects_alike n m dest other cs x y e) refl

-- a run at a point of a picture is that of each larger picture
pub run_in_picture : {P M : Type 0} (layout : Layout) (n : P → List ℕ) (m : M → List ℕ) (cs : List (Command P M)) (width height picture_width picture_height x y : ℕ) (pixel : List ℕ)
    → width ≤ limit → height ≤ limit → width ≤ picture_width → height ≤ picture_height → x < width → y < height
    → run_at layout n m (whole width height) cs x y pixel ≡ run_at layout n m (whole picture_width picture_height) cs x y pixel
run_in_picture layout n m cs width height picture_width picture_height x y pixel wide high across down lx ly =
    let here : covers (whole width height) (pos x) (pos y) ≡ true = covers_point width height x y (omega arith) (omega arith) lx ly in
    let there : covers (whole picture_width picture_height) (pos x) (pos y) ≡ true = covers_point picture_width picture_height x y (omega arith) (omega arith) (omega arith) (omega arith) in
    ap (λ (es : List Effect). fold (apply layout) pixel es) (effects_alike n m (whole width height) (whole picture_width picture_height) cs x y (here ∙ sym there))
