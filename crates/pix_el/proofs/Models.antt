-- The models of the table have their channels in order.
use Rattle.std.specs.Prelude.{◌≡◌, ℕ, ◌≤◌, refl}
use Rattle.std.specs.declared.ops.Range.{Range}
use Rattle.std.proofs.Common.{arith, subst}
use Rattle.pix_el.specs.Model.{Model, ModelRow, in_order, counts, row}

-- the hue, if there is one, then the other colors, then the alpha
pub record IsModel (circular linear : Range ℕ) (alpha : ℕ) : Type 0 where
  pub hue_first : circular.start ≡ 0
  pub hue_whole : circular.start ≤ circular.end
  pub linear_next : linear.start ≡ circular.end
  pub linear_whole : linear.start ≤ linear.end
  pub alpha_last : linear.end ≡ alpha

in_order_placed : (hues colors kind : ℕ) → IsModel (in_order hues colors kind).hues (in_order hues colors kind).colors (in_order hues colors kind).alpha
in_order_placed hues colors kind =
    record { hue_first = refl; hue_whole = omega arith; linear_next = refl; linear_whole = omega arith; alpha_last = refl }

row_placed : (model : Model) → IsModel (row model).hues (row model).colors (row model).alpha
row_placed model = in_order_placed (counts model).0 (counts model).1 (counts model).2

pub placed_by_row : (model : Model) (r : ModelRow) → row model ≡ r → IsModel r.hues r.colors r.alpha
placed_by_row model r e = subst (λ (r : ModelRow). IsModel r.hues r.colors r.alpha) e (row_placed model)
