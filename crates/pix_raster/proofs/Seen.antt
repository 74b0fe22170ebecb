-- Commands on a picture, as seen from a point of it.
use Rattle.std.proofs.Common.{◌≡◌, ℕ, ◌<◌, ◌≤◌, ◌+◌, ℤ, pos, ◌+ℤ◌, ◌-ℤ◌, ◌<ℤ◌, ◌≤ℤ◌, Bool, true, List, [], ◌∷◌, map, fold, cond, arith, refl, ap, sym, ◌∙◌}
use Rattle.std.specs.Prelude.{◌&&◌, not, int_lt}
use Rattle.std.specs.Int.{int_min}
use Rattle.std.specs.List.{zip}
use Rattle.std.proofs.lemmas.Bool.Decides.{Decides-and, Decides-like, same_from_decides}
use Rattle.std.proofs.lemmas.Int.{ints, clamps}
use Rattle.pix_el.specs.Pixel.{Layout}
use Rattle.pix_raster.specs.Region.{Rectangle, limit, covers, whole}
use Rattle.pix_raster.specs.Image.{point, region_of}
use Rattle.pix_raster.specs.Reach.{is_paired, leads_into, has_offset, from_pair, natural}
use Rattle.pix_raster.specs.Run.{Effect, Copied, Composited, Matted, effect_at, effects_at, apply, run_at}
use Rattle.pix_raster.specs.declared.command.Command.{Command}
use Rattle.pix_raster.specs.declared.command.Command.TheVariants as commands
use Rattle.pix_raster.proofs.Rectangles.{Decides-int_lt, Decides-not_int_lt, covers_whole}
use Rattle.pix_raster.specs.Window.{seen_from, command_from}

-- one axis of a rectangle, at a coordinate of the picture and as seen from the first of the window
axis : (first x : ℕ) (l : ℤ) (w : ℕ) → first + x < 2147483647
    → (not (int_lt (pos (first + x)) l) && int_lt (pos (first + x)) (int_min (l +ℤ pos w) (pos 2147483647)))
    ≡ (not (int_lt (pos x) (l -ℤ pos first)) && int_lt (pos x) (int_min ((l -ℤ pos first) +ℤ pos w) (pos 2147483647)))
axis first x l w below =
    same_from_decides _ _
    (Decides-and _ _ (Decides-not_int_lt (pos (first + x)) l) (Decides-int_lt (pos (first + x)) (int_min (l +ℤ pos w) (pos 2147483647))))
    (Decides-like _
    (λ h. let a : (l -ℤ pos first) ≤ℤ pos x = h.0 in let b : pos x <ℤ int_min ((l -ℤ pos first) +ℤ pos w) (pos 2147483647) = h.1 in (omega (arith, ints, a), omega (arith, ints, clamps, b, below)))
    (λ h. let a : l ≤ℤ pos (first + x) = h.0 in let b : pos (first + x) <ℤ int_min (l +ℤ pos w) (pos 2147483647) = h.1 in (omega (arith, ints, a), omega (arith, ints, clamps, b, below)))
    (Decides-and _ _ (Decides-not_int_lt (pos x) (l -ℤ pos first)) (Decides-int_lt (pos x) (int_min ((l -ℤ pos first) +ℤ pos w) (pos 2147483647)))))

module _ (left top width height x y : ℕ) (across : left + width ≤ limit) (down : top + height ≤ limit) (lx : x < width) (ly : y < height) where
  covers_seen : (r : Rectangle) → covers r (pos (left + x)) (pos (top + y)) ≡ covers (seen_from left top r) (pos x) (pos y)
  covers_seen r =
      let columns = axis left x r.left r.width (omega arith) in
      let rows = axis top y r.top r.height (omega arith) in
      rw (columns, rows) refl

  leads_seen : (to : Rectangle) → leads_into to (whole (left + width) (top + height)) (pos (left + x) -ℤ to.left) (pos (top + y) -ℤ to.top)
      ≡ leads_into (seen_from left top to) (whole width height) (pos (left + x) -ℤ to.left) (pos (top + y) -ℤ to.top)
  leads_seen to =
      let column : (to.left +ℤ (pos (left + x) -ℤ to.left)) ≡ pos (left + x) = omega (arith, ints) in
      let row : (to.top +ℤ (pos (top + y) -ℤ to.top)) ≡ pos (top + y) = omega (arith, ints) in
      let column' : ((to.left -ℤ pos left) +ℤ (pos (left + x) -ℤ to.left)) ≡ pos x = omega (arith, ints) in
      let row' : ((to.top -ℤ pos top) +ℤ (pos (top + y) -ℤ to.top)) ≡ pos y = omega (arith, ints) in
      let here : covers (whole (left + width) (top + height)) (pos (left + x)) (pos (top + y)) ≡ true = covers_whole (left + width) (top + height) (left + x) (top + y) across down (omega arith) (omega arith) in
      let there : covers (whole width height) (pos x) (pos y) ≡ true = covers_whole width height x y (omega arith) (omega arith) lx ly in
      let one : leads_into to (whole (left + width) (top + height)) (pos (left + x) -ℤ to.left) (pos (top + y) -ℤ to.top) ≡ (covers to (pos (left + x)) (pos (top + y)) && true) = rw (column, row, here) refl in
      let two : leads_into (seen_from left top to) (whole width height) (pos (left + x) -ℤ to.left) (pos (top + y) -ℤ to.top) ≡ (covers (seen_from left top to) (pos x) (pos y) && true) = rw (column', row', there) refl in
      one ∙ ap (λ (b : Bool). b && true) (covers_seen to) ∙ sym two

  pair_seen : {X : Type 0} (to from source : Rectangle) (get : ℕ → ℕ → X)
      → from_pair to (whole (left + width) (top + height)) from source get (left + x) (top + y) ≡ from_pair (seen_from left top to) (whole width height) from source get x y
  pair_seen {X = X} to from source get =
      let i : ℤ = pos (left + x) -ℤ to.left in
      let j : ℤ = pos (top + y) -ℤ to.top in
      let column : (pos x -ℤ (to.left -ℤ pos left)) ≡ i = omega (arith, ints) in
      let row : (pos y -ℤ (to.top -ℤ pos top)) ≡ j = omega (arith, ints) in
      let at : ℤ → ℤ → List X = λ a b. cond (is_paired (seen_from left top to) (whole width height) from source a b) (get (natural (from.left +ℤ a)) (natural (from.top +ℤ b)) ∷ []) [] in
      ap (λ (b : Bool). cond ((has_offset to i j && has_offset from i j) && (b && leads_into from source i j)) (get (natural (from.left +ℤ i)) (natural (from.top +ℤ j)) ∷ []) []) (leads_seen to)
      ∙ sym (ap (λ a. at a (pos y -ℤ (to.top -ℤ pos top))) column ∙ ap (at i) row)

  effect_seen : {P M : Type 0} (n : P → List ℕ) (m : M → List ℕ) (command : Command P M)
      → effect_at n m (whole (left + width) (top + height)) command (left + x) (top + y) ≡ effect_at n m (whole width height) (command_from left top command) x y
  effect_seen n m commands.Clear = refl
  effect_seen n m (commands.CopyColor reg clr) = ap (λ (b : Bool). cond b (Copied (n clr) ∷ []) []) (covers_seen reg)
  effect_seen n m (commands.CopyRaster to src from) = pair_seen to from (region_of src.now) (λ a b. Copied (point n src.now a b))
  effect_seen n m (commands.Color reg clr op) = ap (λ (b : Bool). cond b (Composited op (n clr) ∷ []) []) (covers_seen reg)
  effect_seen n m (commands.Raster to src from op) = pair_seen to from (region_of src.now) (λ a b. Composited op (point n src.now a b))
  effect_seen n m (commands.Matte to src from clr op) = pair_seen to from (region_of src.now) (λ a b. Matted op (point m src.now a b) (n clr))
  effect_seen n m (commands.RasterMatte to src from mask mask_from op) =
      let made = λ (mattes sources : List (List ℕ)). map (λ t. Matted op t.0 t.1) (zip mattes sources) in
      let get = point n src.now in
      let get_mask = point m mask.now in
      ap (λ l. made l (from_pair to (whole (left + width) (top + height)) from (region_of src.now) get (left + x) (top + y))) (pair_seen to mask_from (region_of mask.now) get_mask)
      ∙ ap (made (from_pair (seen_from left top to) (whole width height) mask_from (region_of mask.now) get_mask x y)) (pair_seen to from (region_of src.now) get)
  effect_seen n m (commands.RasterAlpha to src from alpha op) = pair_seen to from (region_of src.now) (λ a b. Matted op (m alpha) (point n src.now a b))

  effects_seen : {P M : Type 0} (n : P → List ℕ) (m : M → List ℕ) (cs : List (Command P M))
      → effects_at n m (whole (left + width) (top + height)) cs (left + x) (top + y) ≡ effects_at n m (whole width height) (map (command_from left top) cs) x y
  effects_seen n m [] = refl
  effects_seen n m (command ∷ cs) = rw (effect_seen n m command, effects_seen n m cs) refl

  -- a run at a point of the picture is that of the commands as seen from the window at the window's
  -- point
  pub run_seen : {P M : Type 0} (layout : Layout) (n : P → List ℕ) (m : M → List ℕ) (cs : List (Command P M)) (pixel : List ℕ)
      → run_at layout n m (whole (left + width) (top + height)) cs (left + x) (top + y) pixel ≡ run_at layout n m (whole width height) (map (command_from left top) cs) x y pixel
  run_seen layout n m cs pixel = ap (λ (es : List Effect). fold (apply layout) pixel es) (effects_seen n m cs)

-- from the picture's corner a rectangle, a command and a list of them look as they are
rectangle_there : (r : Rectangle) → seen_from 0 0 r ≡ r
rectangle_there r =
    let at : ℤ → ℤ → Rectangle = λ l t. record { left = l; top = t; width = r.width; height = r.height } in
    let column : (r.left -ℤ pos 0) ≡ r.left = omega (arith, ints) in
    let row : (r.top -ℤ pos 0) ≡ r.top = omega (arith, ints) in
    ap (λ l. at l (r.top -ℤ pos 0)) column ∙ ap (at r.left) row

command_there : {P M : Type 0} (command : Command P M) → command_from 0 0 command ≡ command
command_there commands.Clear = refl
command_there (commands.CopyColor reg clr) = rw (rectangle_there reg) refl
command_there (commands.CopyRaster to src from) = rw (rectangle_there to) refl
command_there (commands.Color reg clr op) = rw (rectangle_there reg) refl
command_there (commands.Raster to src from op) = rw (rectangle_there to) refl
command_there (commands.Matte to src from clr op) = rw (rectangle_there to) refl
command_there (commands.RasterMatte to src from mask mask_from op) = rw (rectangle_there to) refl
command_there (commands.RasterAlpha to src from alpha op) = rw (rectangle_there to) refl

pub commands_there : {P M : Type 0} (cs : List (Command P M)) → map (command_from 0 0) cs ≡ cs
commands_there [] = refl
commands_there {P = P} {M = M} (command ∷ cs) = rw (command_there command) (ap (λ (l : List (Command P M)). command ∷ l) (commands_there cs))
