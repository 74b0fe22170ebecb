-- What holds where nothing is to be refused.
use Rattle.std.proofs.Common.{◌≡◌, ℕ, ◌+◌, ◌-◌, ◌*◌, ◌^◌, ◌<◌, ◌≤◌, inl, inr, arith, refl, sym, ap, subst, ◌∙◌}
use Rattle.std.specs.Prelude.{Bool, true, false, ◌||◌, nat_eq, nat_le, Option, None}
use Rattle.std.proofs.Math.Nat.{mul-le-mul_right}
use Rattle.std.proofs.lemmas.Bool.{cases_Bool, and_parts, eqb-true, ltb-true, leb-true}
use Rattle.pix_scale.specs.Axis.{Axis, axis}
use Rattle.pix_scale.specs.Table.{side_axis, AreSides, IsSide}
use Rattle.pix_scale.specs.Call.{unless, fit_in, words, size_fault, memory_fault}
use Rattle.pix_scale.specs.declared.filter.Filter.{Filter}
use Rattle.pix_scale.specs.declared.side.Side.{Side}
use Rattle.pix_scale.specs.declared.shape.Rows.{Rows}
use Rattle.pix_scale.specs.declared.shape.View.{View}
use Rattle.pix_scale.specs.declared.fault.ScaleFault.{ScaleFault}
use Rattle.pix_scale.specs.declared.fault.ScaleFault.TheVariants.{NoSide, TooLarge, Outside, BadRows, BadSource, SmallWork}

-- a test that is passed
pub passed : (b : Bool) (rest : Option ScaleFault) (fault : ScaleFault) → unless b fault rest ≡ None → (b ≡ true) × (rest ≡ None)
passed true rest fault e = (refl, e)
passed false rest fault e = cc

-- what the sizes are then
pub record Sizes (top : ℕ) (filter : Filter) (view : View) (from : Rows) : Type 0 where
  pub width : 0 < from.width
  pub height : 0 < from.height
  pub across : 0 < view.across
  pub down : 0 < view.down
  pub few_columns : from.width ≤ 65535
  pub few_rows : from.height ≤ 65535
  pub column_fits : top * (axis filter from.height view.down).whole < 2 ^ 32
  pub wholes_fit : (axis filter from.width view.across).whole * (axis filter from.height view.down).whole < 2 ^ 31

pub sizes : (top : ℕ) (filter : Filter) (view : View) (from : Rows) → size_fault top filter view from ≡ None → Sizes top filter view from
sizes top filter view from e =
    let first = passed _ _ NoSide e in
    let second = passed _ None TooLarge first.1 in
    let some = and_parts _ _ first.0 in
    let source = and_parts _ _ some.0 in
    let new = and_parts _ _ some.1 in
    let small = and_parts _ _ second.0 in
    let few = and_parts _ _ small.0 in
    let fit = and_parts _ _ small.1 in
    record {
      width = ltb-true 0 from.width source.0;
      height = ltb-true 0 from.height source.1;
      across = ltb-true 0 view.across new.0;
      down = ltb-true 0 view.down new.1;
      few_columns = leb-true from.width 65535 few.0;
      few_rows = leb-true from.height 65535 few.1;
      column_fits = ltb-true _ _ fit.0;
      wholes_fit = ltb-true _ _ fit.1;
    }

-- rows that fit
pub record Fit (rows : Rows) (count : ℕ) : Type 0 where
  pub apart : rows.width ≤ rows.stride
  pub last : (y : ℕ) → y < rows.height → y * rows.stride + rows.width ≤ count

pub fit : (rows : Rows) (count : ℕ) → fit_in rows count ≡ true → Fit rows count
fit rows count e =
    let parts = and_parts (nat_le rows.width rows.stride) _ e in
    record {
      apart = leb-true rows.width rows.stride parts.0;
      last = λ y lt. elim (cases_Bool (nat_eq rows.height 0)) [
        | inl t ↦ let z = eqb-true rows.height 0 t in absurd (omega arith)
        | inr f ↦
            let room : nat_le ((rows.height - 1) * rows.stride + rows.width) count ≡ true =
            sym (ap (λ (b : Bool). b || nat_le ((rows.height - 1) * rows.stride + rows.width) count) f) ∙ parts.1 in
            let all = leb-true ((rows.height - 1) * rows.stride + rows.width) count room in
            let up : y * rows.stride ≤ (rows.height - 1) * rows.stride = mul-le-mul_right rows.stride (let w : y ≤ rows.height - 1 = omega arith in w) in
            omega (arith, all, up)
      ];
    }

-- what the memory is then
pub record Memory (count : ℕ) (filter : Filter) (view : View) (to from : Rows) (to_len from_len work_len : ℕ) : Type 0 where
  pub left : view.left + to.width ≤ view.across
  pub top : view.top + to.height ≤ view.down
  pub rows : Fit to to_len
  pub source : Fit from from_len
  pub work : words count filter view to from ≤ work_len

pub memory : (count : ℕ) (filter : Filter) (view : View) (to from : Rows) (to_len from_len work_len : ℕ)
    → memory_fault count filter view to from to_len from_len work_len ≡ None → Memory count filter view to from to_len from_len work_len
memory count filter view to from to_len from_len work_len e =
    let first = passed _ _ Outside e in
    let second = passed (fit_in to to_len) _ BadRows first.1 in
    let third = passed (fit_in from from_len) _ BadSource second.1 in
    let fourth = passed (nat_le (words count filter view to from) work_len) None SmallWork third.1 in
    let inside = and_parts _ _ first.0 in
    record {
      left = leb-true (view.left + to.width) view.across inside.0;
      top = leb-true (view.top + to.height) view.down inside.1;
      rows = fit to to_len second.0;
      source = fit from from_len third.0;
      work = leb-true _ work_len fourth.0;
    }

-- the sides that a window is drawn by
pub are_sides : (top : ℕ) (filter : Filter) (view : View) (from : Rows) (across down : Side) (len : ℕ) → Sizes top filter view from → Fit from len
    → (from.width ≤ 65535 → IsSide across.kernel across.places view.across across.n across.m) → across.places ≡ from.width
    → side_axis across ≡ axis filter from.width view.across
    → (from.height ≤ 65535 → IsSide down.kernel down.places view.down down.n down.m) → down.places ≡ from.height
    → side_axis down ≡ axis filter from.height view.down
    → AreSides top across down view from.stride len
are_sides top filter view from across down len sizes fit x x_places x_axis y y_places y_axis =
    let rows : (side_axis down).whole ≡ (axis filter from.height view.down).whole = ap (λ (a : Axis). a.whole) y_axis in
    let columns : (side_axis across).whole ≡ (axis filter from.width view.across).whole = ap (λ (a : Axis). a.whole) x_axis in
    record {
      across_side = x sizes.few_columns;
      down_side = y sizes.few_rows;
      source = λ v lt. let last = fit.last v (omega (arith, y_places, lt)) in omega (arith, last, x_places);
      column_fits = subst (λ w. top * w < 2 ^ 32) (sym rows) sizes.column_fits;
      wholes_fit = rw (columns, rows) sizes.wholes_fit;
    }
