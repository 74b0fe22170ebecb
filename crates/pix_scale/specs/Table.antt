-- What functions that are not public work with: sums, reciprocals, and tables of the weights of those
-- places that count something.
use Rattle.std.specs.Prelude.{◌≡◌, ℕ, ◌+◌, ◌-◌, ◌*◌, ◌/◌, ◌%◌, ◌^◌, ◌<◌, ◌≤◌, List, [], length, slice_index, slice_index_or, min}
use Rattle.pix_scale.specs.Axis.{Axis, axis_of, held}
use Rattle.pix_scale.specs.declared.side.Side.{Side}
use Rattle.pix_scale.specs.declared.shape.View.{View}
use Rattle.pix_scale.specs.declared.filter.Kernel.{Kernel}
use Rattle.pix_scale.specs.declared.filter.Kernel.TheVariants.{Point, Box, Line, Triangle}

-- the channels of pixels, `count` of each, one after the other: their number at a place
abbrev pub flat : ℕ → List (List ℕ) → ℕ → ℕ
flat count pixels x = slice_index (slice_index_or pixels (x / count) []) (x % count)

-- the number at column x of row k, of rows that begin a stride apart, times the weight of the row
abbrev pub row_term : List ℕ → (ℕ → ℕ) → ℕ → ℕ → ℕ → ℕ
row_term weights numbers stride x k = slice_index weights k * numbers (k * stride + x)

-- the number of channel c of the k-th pixel of n channels from pixel `first` on, times the k-th
-- weight of row i of a table
abbrev pub pixel_term : List ℕ → ℕ → ℕ → List ℕ → ℕ → ℕ → ℕ → ℕ → ℕ
pixel_term weights taps i numbers n first c k =
    slice_index weights (i * taps + k) * slice_index numbers (first * n + (k * n + c))

-- the k-th weight of row i of a table
abbrev pub tap : List ℕ → ℕ → ℕ → ℕ → ℕ
tap weights taps i k = slice_index weights (i * taps + k)

-- The whole lies between a power of two and the next, and the reciprocal is that of twice the
-- whole, rounded down.
pub record IsReciprocal (whole shift reciprocal : ℕ) : Type 0 where
  pub some : 0 < whole
  pub small : shift < 31
  pub fits : whole < 2 ^ 31
  pub at_least : 2 ^ shift ≤ whole
  pub below : whole < 2 * 2 ^ shift
  pub is : reciprocal ≡ 2 ^ shift * 524288 / (2 * whole)

-- a place up to the first that counts something for place i
abbrev pub start_of : Kernel → (places n m i : ℕ) → ℕ
start_of Point places n m i = (2 * i + 1) * n / (2 * m)
start_of Box places n m i = i * n / m
start_of Line places n m i = (held places n m i - m) / (2 * m)
start_of Triangle places n m i = (2 * i * n - n + m) / (2 * m)

-- such a place with all that count something behind it
abbrev pub first_of : Kernel → (places n m i : ℕ) → ℕ
first_of kernel places n m i = min (places - (axis_of kernel places n m).taps) (start_of kernel places n m i)

-- n of `places` become m of `size`, in the same ratio; there are at most 65,535 places, and a
-- triangle is for a side that shrinks
pub record IsSide (kernel : Kernel) (places size n m : ℕ) : Type 0 where
  pub some_n : 0 < n
  pub some_m : 0 < m
  pub few : places ≤ 65535
  pub short : n ≤ places
  pub small : m ≤ size
  pub same : places * m ≡ size * n
  pub shrinks : kernel ≡ Triangle → m ≤ n

-- The weights are those of place i, for `taps` places from `first` on. The others count nothing.
pub record IsRow (axis : Axis) (i first taps : ℕ) (weight : ℕ → ℕ) : Type 0 where
  pub inside : first + taps ≤ axis.places
  pub weighs : (k : ℕ) → k < taps → weight k ≡ axis.weight i (first + k)
  pub none_before : (j : ℕ) → j < first → axis.weight i j ≡ 0
  pub none_after : (j : ℕ) → first + taps ≤ j → j < axis.places → axis.weight i j ≡ 0

-- A table has a row for each of some places of the new side, from `at` on. The i-th row is for the
-- places from the i-th of `firsts` on.
abbrev pub IsTable : Axis → ℕ → (firsts weights : List ℕ) → (taps : ℕ) → Type 0
IsTable axis at firsts weights taps = (i : ℕ) → i < length firsts → IsRow axis (at + i) (slice_index firsts i) taps (tap weights taps i)

-- the axis of a side
abbrev pub side_axis : Side → Axis
side_axis side = axis_of side.kernel side.places side.n side.m

-- What a window is drawn by: both sides, as the whole picture has them; rows of a source that have
-- all places; and sums that fit.
pub record AreSides (top : ℕ) (across down : Side) (view : View) (stride len : ℕ) : Type 0 where
  pub across_side : IsSide across.kernel across.places view.across across.n across.m
  pub down_side : IsSide down.kernel down.places view.down down.n down.m
  pub source : (v : ℕ) → v < down.places → v * stride + across.places ≤ len
  pub column_fits : top * (side_axis down).whole < 2 ^ 32
  pub wholes_fit : (side_axis across).whole * (side_axis down).whole < 2 ^ 31
