-- What holds where nothing is to be refused, by weights that may be negative.
use Rattle.std.proofs.Common.{◌≡◌, ℕ, ◌+◌, ◌<◌, ◌≤◌, List, ap, subst, ◌∙◌}
use Rattle.std.specs.Prelude.{nat_le, None}
use Rattle.std.proofs.lemmas.Bool.{and_parts, ltb-true, leb-true}
use Rattle.pix_el.specs.Pixel.{Layout}
use Rattle.pix_scale.specs.Axis.{lowest}
use Rattle.pix_scale.specs.Call.{fit_in}
use Rattle.pix_scale.specs.Table.{IsSide}
use Rattle.pix_scale.specs.Signed.{Taps, taps_of_filter, taps_by, IsCut}
use Rattle.pix_scale.specs.SignedCall.{signed_taps, signed_count, signed_words, signed_size_fault, signed_memory_fault}
use Rattle.pix_scale.specs.declared.filter.Kernel.{Kernel}
use Rattle.pix_scale.specs.declared.filter.Kernel.TheVariants.{Point}
use Rattle.pix_scale.specs.declared.filter.SignedFilter.{SignedFilter}
use Rattle.pix_scale.specs.declared.shape.Rows.{Rows}
use Rattle.pix_scale.specs.declared.shape.View.{View}
use Rattle.pix_scale.specs.declared.fault.ScaleFault.TheVariants.{NoSide, TooLarge, Outside, BadRows, BadSource, SmallWork}
use Rattle.pix_scale.proofs.Calls.{passed, fit, Fit}

-- what the sizes are then
pub record SignedSizes (view : View) (from : Rows) : Type 0 where
  pub width : 0 < from.width
  pub height : 0 < from.height
  pub across : 0 < view.across
  pub down : 0 < view.down
  pub few_columns : from.width ≤ 65535
  pub few_rows : from.height ≤ 65535

pub signed_sizes : (view : View) (from : Rows) → signed_size_fault view from ≡ None → SignedSizes view from
signed_sizes view from e =
    let first = passed _ _ NoSide e in
    let second = passed _ None TooLarge first.1 in
    let some = and_parts _ _ first.0 in
    let source = and_parts _ _ some.0 in
    let new = and_parts _ _ some.1 in
    let few = and_parts _ _ second.0 in
    record {
      width = ltb-true 0 from.width source.0;
      height = ltb-true 0 from.height source.1;
      across = ltb-true 0 view.across new.0;
      down = ltb-true 0 view.down new.1;
      few_columns = leb-true from.width 65535 few.0;
      few_rows = leb-true from.height 65535 few.1;
    }

-- what the memory is then
pub record SignedMemory (count : ℕ) (filter : SignedFilter) (view : View) (to from : Rows) (to_len from_len work_len : ℕ) : Type 0 where
  pub left : view.left + to.width ≤ view.across
  pub top : view.top + to.height ≤ view.down
  pub rows : Fit to to_len
  pub source : Fit from from_len
  pub work : signed_words count filter view to from ≤ work_len

pub signed_memory : (count : ℕ) (filter : SignedFilter) (view : View) (to from : Rows) (to_len from_len work_len : ℕ)
    → signed_memory_fault count filter view to from to_len from_len work_len ≡ None → SignedMemory count filter view to from to_len from_len work_len
signed_memory count filter view to from to_len from_len work_len e =
    let first = passed _ _ Outside e in
    let second = passed (fit_in to to_len) _ BadRows first.1 in
    let third = passed (fit_in from from_len) _ BadSource second.1 in
    let fourth = passed (nat_le (signed_words count filter view to from) work_len) None SmallWork third.1 in
    let inside = and_parts _ _ first.0 in
    record {
      left = leb-true (view.left + to.width) view.across inside.0;
      top = leb-true (view.top + to.height) view.down inside.1;
      rows = fit to to_len second.0;
      source = fit from from_len third.0;
      work = leb-true _ work_len fourth.0;
    }

-- the side of a ratio in lowest terms, by a point
pub point_side : (kernel : Kernel) (places from size n m : ℕ) → kernel ≡ Point → places ≡ from → (from ≤ 65535 → IsSide kernel places size n m) → from ≤ 65535
    → IsSide Point from size n m
point_side kernel places from size n m e f side few =
    subst (λ p. IsSide Point p size n m) f (subst (λ k. IsSide k places size n m) e (side few))

-- how many places count, by other names of the ratio
pub count_is : (filter : SignedFilter) (places size n m a : ℕ) → n ≡ lowest places size → m ≡ lowest size places → a ≡ taps_of_filter filter places n m
    → a ≡ signed_count filter places size
count_is filter places size n m a e f g =
    g ∙ ap (λ z. taps_of_filter filter places z m) e ∙ ap (λ z. taps_of_filter filter places (lowest places size) z) f

-- what is written, by other names of the ratios
pub cut_is : {D : Type 0} (reads : D → List ℕ) (layout : Layout) (filter : SignedFilter) (view : View) (to from : Rows) (source old new : List D) (n m p q : ℕ)
    → n ≡ lowest from.width view.across → m ≡ lowest view.across from.width → p ≡ lowest from.height view.down → q ≡ lowest view.down from.height
    → IsCut reads layout (λ x. taps_by filter from.width n m (view.left + x)) (λ y. taps_by filter from.height p q (view.top + y)) to from source old new
    → IsCut reads layout (λ x. signed_taps filter from.width view.across (view.left + x)) (λ y. signed_taps filter from.height view.down (view.top + y)) to from source old new
cut_is reads layout filter view to from source old new n m p q e f g h is =
    let across : ℕ → ℕ → ℕ → Taps = λ n m x. taps_by filter from.width n m (view.left + x) in
    let down : ℕ → ℕ → ℕ → Taps = λ p q y. taps_by filter from.height p q (view.top + y) in
    subst (λ z. IsCut reads layout (across (lowest from.width view.across) (lowest view.across from.width)) (down (lowest from.height view.down) z) to from source old new) h
    (subst (λ z. IsCut reads layout (across (lowest from.width view.across) (lowest view.across from.width)) (down z q) to from source old new) g
    (subst (λ z. IsCut reads layout (across (lowest from.width view.across) z) (down p q) to from source old new) f
    (subst (λ z. IsCut reads layout (across z m) (down p q) to from source old new) e is)))
