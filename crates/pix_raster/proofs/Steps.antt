-- A run, one command on.
use Rattle.std.proofs.Common.{◌≡◌, ℕ, ◌<◌, ◌≤◌, ◌+◌, List, [], ◌∷◌, ◌++◌, length, map, get_or, drop, sym, ap, ◌∙◌, refl, fold, pos, Bool, true, false, cond, ◌⊎◌, inl, inr}
use Rattle.pix_el.specs.Pixel.{Layout}
use Rattle.pix_raster.specs.Region.{Rectangle, covers, whole}
use Rattle.pix_raster.specs.Image.{Image, Changed, point, region_of}
use Rattle.pix_raster.specs.Reach.{from_pair}
use Rattle.pix_raster.specs.View.{where_covered, where_paired, where_masked}
use Rattle.std.specs.List.{zip}
use Rattle.std.proofs.lemmas.List.{drop_more, append-nil, append_assoc}
use Rattle.std.proofs.lemmas.List.Sums.{fold-append}
use Rattle.pix_raster.specs.declared.command.Command.{Command}
use Rattle.pix_raster.specs.Run.{Effect, effect_at, effects_at, apply, run_at, HasSwappedNeighbours}
use Rattle.pix_raster.proofs.Rectangles.{covers_whole}

-- the run of the command at place i and then of those after it is the run of those from place i on
pub run_more : {P M : Type 0} (layout : Layout) (n : P → List ℕ) (m : M → List ℕ) (dest : Rectangle) (commands : List (Command P M)) (i : ℕ) (command : Command P M) (x y : ℕ) (pixel : List ℕ)
    → i < length commands → command ≡ get_or commands i command
    → run_at layout n m dest (drop (i + 1) commands) x y (run_at layout n m dest (command ∷ []) x y pixel) ≡ run_at layout n m dest (drop i commands) x y pixel
run_more {P = P} {M = M} layout n m dest commands i command x y pixel within is =
    let rest = drop (i + 1) commands in
    let whole : drop i commands ≡ command ∷ rest = drop_more commands i command within ∙ ap (λ (c : Command P M). c ∷ rest) (sym is) in
    let one : effects_at n m dest (command ∷ []) x y ≡ effect_at n m dest command x y = append-nil (effect_at n m dest command x y) in
    ap (λ (es : List Effect). fold (apply layout) (fold (apply layout) pixel es) (effects_at n m dest rest x y)) one
    ∙ sym (fold-append (apply layout) pixel (effect_at n m dest command x y) (effects_at n m dest rest x y))
    ∙ sym (ap (λ (cs : List (Command P M)). run_at layout n m dest cs x y pixel) whole)

-- one effect where a test holds, none elsewhere
one_effect : (layout : Layout) (effect : Effect) (pixel : List ℕ) (reached : Bool)
    → cond reached (apply layout pixel effect) pixel ≡ fold (apply layout) pixel (cond reached (effect ∷ []) [] ++ [])
one_effect layout effect pixel true = refl
one_effect layout effect pixel false = refl

-- one change where a test holds, none elsewhere, is one effect there
paired_effect : (layout : Layout) (effect : List ℕ → Effect) (f : List ℕ → List ℕ → List ℕ) (source pixel : List ℕ) (reached : Bool)
    → ((p : List ℕ) → f source p ≡ apply layout p (effect source))
    → fold (λ p s. f s p) pixel (cond reached (source ∷ []) []) ≡ fold (apply layout) pixel (cond reached (effect source ∷ []) [] ++ [])
paired_effect layout effect f source pixel true is = is pixel
paired_effect layout effect f source pixel false is = refl

-- a change of a point of a rectangle is the run of a command with that effect there
pub covered_effect : (layout : Layout) (reg : Rectangle) (f : List ℕ → List ℕ) (effect : Effect) (x y : ℕ) (pixel : List ℕ) → ((p : List ℕ) → f p ≡ apply layout p effect)
    → where_covered reg f x y pixel ≡ fold (apply layout) pixel (cond (covers reg (pos x) (pos y)) (effect ∷ []) [] ++ [])
covered_effect layout reg f effect x y pixel is =
    ap (λ p. cond (covers reg (pos x) (pos y)) p pixel) (is pixel) ∙ one_effect layout effect pixel (covers reg (pos x) (pos y))

-- a change of a point of all those of a picture is
pub whole_effect : (layout : Layout) (width height : ℕ) (f : List ℕ → List ℕ) (effect : Effect) (x y : ℕ) (pixel : List ℕ) → width ≤ 2147483647 → height ≤ 2147483647 → x < width → y < height
    → ((p : List ℕ) → f p ≡ apply layout p effect) → where_covered (whole width height) f x y pixel ≡ fold (apply layout) pixel (effect ∷ [] ++ [])
whole_effect layout width height f effect x y pixel wide high lx ly is =
    ap (λ (b : Bool). cond b (f pixel) pixel) (covers_whole width height x y wide high lx ly) ∙ is pixel

-- a change of a point that is paired with another is the run of a command with that effect
pub from_pair_effect : (layout : Layout) (to dest from source : Rectangle) (get : ℕ → ℕ → List ℕ) (f : List ℕ → List ℕ → List ℕ) (effect : List ℕ → Effect) (x y : ℕ) (pixel : List ℕ)
    → ((s p : List ℕ) → f s p ≡ apply layout p (effect s))
    → where_paired to dest from source get f x y pixel ≡ fold (apply layout) pixel (from_pair to dest from source (λ a b. effect (get a b)) x y ++ [])
from_pair_effect layout to dest from source get f effect x y pixel is = paired_effect layout effect f _ pixel _ (is _)

-- a change of the points of a rectangle is the run of a command with that effect there
pub changed_where_covered : {P : Type 0} (layout : Layout) (n : P → List ℕ) (old new : Image P) (reg : Rectangle) (f : List ℕ → List ℕ) (effect : Effect)
    → Changed n old new (where_covered reg f) → ((p : List ℕ) → f p ≡ apply layout p effect)
    → Changed n old new (λ x y pixel. fold (apply layout) pixel (cond (covers reg (pos x) (pos y)) (effect ∷ []) [] ++ []))
changed_where_covered layout n old new reg f effect changed is = record {
  same_width = changed.same_width;
  same_height = changed.same_height;
  points = λ x y hx hy. changed.points x y hx hy ∙ covered_effect layout reg f effect x y (point n old x y) is;
}

-- a change of the points that are paired with others is the run of a command with those effects
pub changed_where_paired : {P S : Type 0} (layout : Layout) (n : P → List ℕ) (s : S → List ℕ) (old new : Image P) (to from : Rectangle) (src : Image S) (f : List ℕ → List ℕ → List ℕ) (effect : List ℕ → Effect)
    → Changed n old new (where_paired to (region_of old) from (region_of src) (point s src) f) → ((source p : List ℕ) → f source p ≡ apply layout p (effect source))
    → Changed n old new (λ x y pixel. fold (apply layout) pixel (from_pair to (region_of old) from (region_of src) (λ a b. effect (point s src a b)) x y ++ []))
changed_where_paired layout n s old new to from src f effect changed is = record {
  same_width = changed.same_width;
  same_height = changed.same_height;
  points = λ x y hx hy. changed.points x y hx hy ∙ from_pair_effect layout to (region_of old) from (region_of src) (point s src) f effect x y (point n old x y) is;
}

-- changes by what a mask and a source have are the effects of those
mapped_effects : (layout : Layout) (effect : List ℕ × List ℕ → Effect) (f : List ℕ × List ℕ → List ℕ → List ℕ) (ts : List (List ℕ × List ℕ)) (pixel : List ℕ)
    → ((t : List ℕ × List ℕ) (p : List ℕ) → f t p ≡ apply layout p (effect t)) → fold (λ p t. f t p) pixel ts ≡ fold (apply layout) pixel (map effect ts ++ [])
mapped_effects layout effect f [] pixel is = refl
mapped_effects layout effect f (t ∷ ts) pixel is =
    ap (λ p. fold (λ p t. f t p) p ts) (is t pixel) ∙ mapped_effects layout effect f ts (apply layout pixel (effect t)) is

-- a change of a point that is paired with one of a mask and with one of a source is the run of a
-- command with that effect
pub masked_effect : (layout : Layout) (to dest from source mask_from mask : Rectangle) (get get_mask : ℕ → ℕ → List ℕ) (f : List ℕ → List ℕ → List ℕ → List ℕ)
    (effect : List ℕ → List ℕ → Effect) (x y : ℕ) (pixel : List ℕ) → ((m s p : List ℕ) → f m s p ≡ apply layout p (effect m s))
    → where_masked to dest from source mask_from mask get get_mask f x y pixel
    ≡ fold (apply layout) pixel (map (λ t. effect t.0 t.1) (zip (from_pair to dest mask_from mask get_mask x y) (from_pair to dest from source get x y)) ++ [])
masked_effect layout to dest from source mask_from mask get get_mask f effect x y pixel is =
    mapped_effects layout (λ t. effect t.0 t.1) (λ t. f t.0 t.1) (zip (from_pair to dest mask_from mask get_mask x y) (from_pair to dest from source get x y)) pixel (λ t p. is t.0 t.1 p)

-- a change of such points is the run of a command with those effects
pub changed_where_masked : {P S M : Type 0} (layout : Layout) (n : P → List ℕ) (s : S → List ℕ) (m : M → List ℕ) (old new : Image P) (to from : Rectangle) (src : Image S)
    (mask_from : Rectangle) (mask : Image M) (f : List ℕ → List ℕ → List ℕ → List ℕ) (effect : List ℕ → List ℕ → Effect)
    → Changed n old new (where_masked to (region_of old) from (region_of src) mask_from (region_of mask) (point s src) (point m mask) f)
    → ((matte source p : List ℕ) → f matte source p ≡ apply layout p (effect matte source))
    → Changed n old new (λ x y pixel. fold (apply layout) pixel (map (λ t. effect t.0 t.1) (zip (from_pair to (region_of old) mask_from (region_of mask) (point m mask) x y)
    (from_pair to (region_of old) from (region_of src) (point s src) x y)) ++ []))
changed_where_masked layout n s m old new to from src mask_from mask f effect changed is = record {
  same_width = changed.same_width;
  same_height = changed.same_height;
  points = λ x y hx hy.
      changed.points x y hx hy
      ∙ masked_effect layout to (region_of old) from (region_of src) mask_from (region_of mask) (point s src) (point m mask) f effect x y (point n old x y) is;
}

-- the effects of two lists of commands, one after the other
effects_at-append : {P M : Type 0} (n : P → List ℕ) (m : M → List ℕ) (dest : Rectangle) (before after : List (Command P M)) (x y : ℕ)
    → effects_at n m dest (before ++ after) x y ≡ effects_at n m dest before x y ++ effects_at n m dest after x y
effects_at-append n m dest [] after x y = refl
effects_at-append n m dest (command ∷ before) after x y =
    ap (λ (es : List Effect). effect_at n m dest command x y ++ es) (effects_at-append n m dest before after x y)
    ∙ sym (append_assoc (effect_at n m dest command x y) (effects_at n m dest before x y) (effects_at n m dest after x y))

-- two neighbours of which one has no effect
swapped : (one two rest : List Effect) → (one ≡ []) ⊎ (two ≡ []) → one ++ (two ++ rest) ≡ two ++ (one ++ rest)
swapped one two rest (inl e) = rw e refl
swapped one two rest (inr e) = rw e refl

-- the run of a list is that of a list in which two neighbours that reach no common point are
-- swapped
pub changed_swapped : {P M : Type 0} (layout : Layout) (n : P → List ℕ) (m : M → List ℕ) (old new : Image P) (commands others : List (Command P M))
    → Changed n old new (run_at layout n m (region_of old) commands) → HasSwappedNeighbours n m old commands others
    → Changed n old new (run_at layout n m (region_of old) others)
changed_swapped {P = P} {M = M} layout n m old new commands others changed e = record {
  same_width = changed.same_width;
  same_height = changed.same_height;
  points = λ x y hx hy.
      let dest = region_of old in
      let same : effects_at n m dest commands x y ≡ effects_at n m dest others x y =
      ap (λ (cs : List (Command P M)). effects_at n m dest cs x y) e.here
      ∙ effects_at-append n m dest e.before (e.one ∷ e.two ∷ e.after) x y
      ∙ ap (λ (es : List Effect). effects_at n m dest e.before x y ++ es) (swapped _ _ (effects_at n m dest e.after x y) (e.disjoint x y hx hy))
      ∙ sym (effects_at-append n m dest e.before (e.two ∷ e.one ∷ e.after) x y)
      ∙ sym (ap (λ (cs : List (Command P M)). effects_at n m dest cs x y) e.there) in
      changed.points x y hx hy ∙ ap (λ (es : List Effect). fold (apply layout) (point n old x y) es) same;
}
