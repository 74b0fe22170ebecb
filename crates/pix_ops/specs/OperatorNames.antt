-- The operators in order, by number and by name.
use Rattle.std.specs.Prelude.{◌≡◌, refl, ℕ, List, [], ◌∷◌, Option, Some, find, slice_get, codes}
use Rattle.std.specs.Str.{bytes_eq}
use Rattle.pix_ops.specs.declared.ops.Op.{Op}
use Rattle.pix_ops.specs.declared.ops.Op.TheVariants.{Src, Dest, SrcOver, DestOver, SrcOut, DestOut, SrcIn, DestIn, SrcAtop, DestAtop, Xor, Clear, Plus}

-- all operators, in the order of their numbers
abbrev pub operators : List Op
operators =
    Src ∷ Dest ∷ SrcOver ∷ DestOver ∷ SrcOut ∷ DestOut ∷ SrcIn ∷ DestIn ∷ SrcAtop ∷ DestAtop ∷ Xor ∷ Clear ∷ Plus ∷ []

-- the number of an operator, which `==` compares
abbrev pub op_number : Op → ℕ
op_number Src = 0
op_number Dest = 1
op_number SrcOver = 2
op_number DestOver = 3
op_number SrcOut = 4
op_number DestOut = 5
op_number SrcIn = 6
op_number DestIn = 7
op_number SrcAtop = 8
op_number DestAtop = 9
op_number Xor = 10
op_number Clear = 11
op_number Plus = 12

-- the name of an operator
abbrev pub op_name : Op → List ℕ
op_name Src = codes "Src"
op_name Dest = codes "Dest"
op_name SrcOver = codes "SrcOver"
op_name DestOver = codes "DestOver"
op_name SrcOut = codes "SrcOut"
op_name DestOut = codes "DestOut"
op_name SrcIn = codes "SrcIn"
op_name DestIn = codes "DestIn"
op_name SrcAtop = codes "SrcAtop"
op_name DestAtop = codes "DestAtop"
op_name Xor = codes "Xor"
op_name Clear = codes "Clear"
op_name Plus = codes "Plus"

-- the operator of a name, whose case has to match
unfoldable pub operator_of : List ℕ → Option Op
operator_of name = find (λ op. bytes_eq name (op_name op)) operators

-- each operator is in the list at its number
pub stands_at_number : (op : Op) → slice_get operators (op_number op) ≡ Some op
stands_at_number Src = refl
stands_at_number Dest = refl
stands_at_number SrcOver = refl
stands_at_number DestOver = refl
stands_at_number SrcOut = refl
stands_at_number DestOut = refl
stands_at_number SrcIn = refl
stands_at_number DestIn = refl
stands_at_number SrcAtop = refl
stands_at_number DestAtop = refl
stands_at_number Xor = refl
stands_at_number Clear = refl
stands_at_number Plus = refl
