-- The operators of Porter and Duff: the coefficients of the source and of the destination.
-- A new operator is a row of the table; all below it is computed from the rows.
use Rattle.std.specs.Prelude.{ℕ, ◌+◌, ◌*◌, Bool, true, false, ◌||◌, ◌==◌}
use Rattle.pix_ops.specs.declared.ops.Op.{Op}
use Rattle.pix_ops.specs.declared.ops.Op.TheVariants.{Src, Dest, SrcOver, DestOver, SrcOut, DestOut, SrcIn, DestIn, SrcAtop, DestAtop, Xor, Clear, Plus}

-- what one side is multiplied by: 0, 1, the other side's alpha, or one minus that alpha
pub data Coefficient : Type 0 where
  Zero : Coefficient
  One : Coefficient
  OtherAlpha : Coefficient
  OneMinusAlpha : Coefficient

-- an operator: the coefficients of source and destination
pub record OperatorRow : Type 0 where
  pub source : Coefficient
  pub dest : Coefficient

-- the table of the operators
abbrev pub row : Op → OperatorRow
row Src = record { source = One; dest = Zero }
row Dest = record { source = Zero; dest = One }
row SrcOver = record { source = One; dest = OneMinusAlpha }
row DestOver = record { source = OneMinusAlpha; dest = One }
row SrcOut = record { source = OneMinusAlpha; dest = Zero }
row DestOut = record { source = Zero; dest = OneMinusAlpha }
row SrcIn = record { source = OtherAlpha; dest = Zero }
row DestIn = record { source = Zero; dest = OtherAlpha }
row SrcAtop = record { source = OtherAlpha; dest = OneMinusAlpha }
row DestAtop = record { source = OneMinusAlpha; dest = OtherAlpha }
row Xor = record { source = OneMinusAlpha; dest = OneMinusAlpha }
row Clear = record { source = Zero; dest = Zero }
row Plus = record { source = One; dest = One }

-- 1 where a coefficient reads the other side's alpha, and so takes a channel product
abbrev pub reads : Coefficient → ℕ
reads Zero = 0
reads One = 0
reads OtherAlpha = 1
reads OneMinusAlpha = 1

-- 1 where a coefficient is not zero, so that its side enters the composite
abbrev pub enters : Coefficient → ℕ
enters Zero = 0
enters One = 1
enters OtherAlpha = 1
enters OneMinusAlpha = 1

-- How many channel products a composite by the coefficients rounds; k is 0 without a matte, and 1
-- through one. The matte's product with the source's channel counts where the source enters, and
-- that with its alpha where the destination's coefficient reads it.
abbrev pub count_by : (k : ℕ) (source dest : Coefficient) → ℕ
count_by k source dest = reads source + k * enters source + (1 + k) * reads dest

-- how many channel products a composite by an operator rounds
abbrev pub product_count : Op → ℕ
product_count op = count_by 0 (row op).source (row op).dest

-- the same through a matte
abbrev pub matted_count : Op → ℕ
matted_count op = count_by 1 (row op).source (row op).dest

-- operators with a constant source: its coefficient does not read the destination's alpha
abbrev pub has_constant_source : Op → Bool
has_constant_source op = reads (row op).source == 0

-- whether a coefficient leaves room for the other side: its own side is left out, or multiplied by
-- one minus the other's alpha
abbrev pub leaves_room : Coefficient → Bool
leaves_room Zero = true
leaves_room One = false
leaves_room OtherAlpha = false
leaves_room OneMinusAlpha = true

-- whether the sum of premultiplied sides never passes the maximum: one of them leaves room for the
-- other
abbrev pub sum_fits : Op → Bool
sum_fits op = leaves_room (row op).source || leaves_room (row op).dest
