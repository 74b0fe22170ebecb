-- Rows one after the other, as rasters have them.
use Rattle.std.proofs.Common.{◌≡◌, ℕ, zero, suc, ◌+◌, ◌*◌, ◌<◌, ◌≤◌, Bool, true, false, Option, Some, None, List, map, arith, refl, sym, subst}
use Rattle.std.specs.Prelude.{nat_le}
use Rattle.std.specs.Option.{option_or}
use Rattle.std.proofs.lemmas.Bool.Decides.{nat_tests}
use Rattle.pix_scale.specs.Axis.{axis, channel_at, scaled}
use Rattle.pix_scale.specs.Call.{IsScaled, fit_in, memory_fault, unless, whole_rows, window_fault, words}
use Rattle.pix_scale.specs.declared.filter.Filter.{Filter}
use Rattle.pix_scale.specs.declared.shape.Rows.{Rows}
use Rattle.pix_scale.specs.declared.shape.View.{View}
use Rattle.pix_scale.specs.declared.fault.ScaleFault.{ScaleFault}
use Rattle.pix_scale.specs.declared.fault.ScaleFault.TheVariants.{Outside, BadRows, BadSource, SmallWork}

-- they fit as many pixels as they have
whole_fits : (w h : ℕ) → fit_in (whole_rows w h) (h * w) ≡ true
whole_fits w zero = grind (arith, nat_tests)
whole_fits w (suc h) =
    let fits : h * w + w ≤ suc h * w = omega arith in
    grind (arith, nat_tests)

-- a test that is passed where nothing is wrong
inside : (sizes : Option ScaleFault) (test : Bool) → option_or sizes (unless test Outside None) ≡ None → test ≡ true
inside (Some fault) test e = cc
inside None true e = refl
inside None false e = cc

-- four tests that are passed
all_passed : (a b c d : Bool) → a ≡ true → b ≡ true → c ≡ true → d ≡ true
    → unless a Outside (unless b BadRows (unless c BadSource (unless d SmallWork None))) ≡ None
all_passed true true true true p q r s = refl
all_passed false b c d p q r s = cc
all_passed true false c d p q r s = cc
all_passed true true false d p q r s = cc
all_passed true true true false p q r s = cc

-- the memory of two rasters, and as many words as are needed
pub memory_fits : (top count : ℕ) (filter : Filter) (view : View) (to from : Rows) (w h v k n : ℕ) → to ≡ whole_rows w h → from ≡ whole_rows v k
    → window_fault top filter view to from ≡ None → n ≡ words count filter view to from → memory_fault count filter view to from (h * w) (k * v) n ≡ None
memory_fits top count filter view to from w h v k n e f window m =
    all_passed _ _ _ _ (inside _ _ window)
    (subst (λ r. fit_in r (h * w) ≡ true) (sym e) (whole_fits w h))
    (subst (λ r. fit_in r (k * v) ≡ true) (sym f) (whole_fits v k))
    (subst (λ l. nat_le (words count filter view to from) l ≡ true) (sym m) (grind (arith, nat_tests)))

-- the pixels of a window, whose rows are those of a raster
pub whole_pixels : {D : Type 0} (reads : D → List ℕ) (top count : ℕ) (filter : Filter) (view : View) (to from : Rows) (w h v k : ℕ) (given source old new made : List D)
    → to ≡ whole_rows w h → from ≡ whole_rows v k → given ≡ source → made ≡ new
    → IsScaled reads top count (axis filter from.width view.across) (axis filter from.height view.down) view to from given old new
    → (x y c : ℕ) → x < w → y < h → c < count
    → channel_at (map reads made) w c x y
    ≡ scaled top (axis filter v view.across) (axis filter k view.down) (channel_at (map reads source) v c) (view.left + x) (view.top + y)
whole_pixels {D = D} reads top count filter view to from w h v k given source old new made e f own same drawn x y c lx ly lc =
    let by_source : IsScaled reads top count (axis filter from.width view.across) (axis filter from.height view.down) view to from source old new =
    subst (λ (l : List D). IsScaled reads top count (axis filter from.width view.across) (axis filter from.height view.down) view to from l old new) own drawn in
    let by_rows : IsScaled reads top count (axis filter v view.across) (axis filter k view.down) view to (whole_rows v k) source old new =
    subst (λ (r : Rows). IsScaled reads top count (axis filter r.width view.across) (axis filter r.height view.down) view to r source old new) f by_source in
    let all : IsScaled reads top count (axis filter v view.across) (axis filter k view.down) view (whole_rows w h) (whole_rows v k) source old new =
    subst (λ (r : Rows). IsScaled reads top count (axis filter v view.across) (axis filter k view.down) view r (whole_rows v k) source old new) e by_rows in
    subst (λ (l : List D). channel_at (map reads l) w c x y
    ≡ scaled top (axis filter v view.across) (axis filter k view.down) (channel_at (map reads source) v c) (view.left + x) (view.top + y)) (sym same)
    (all.pixels x y c lx ly lc)
