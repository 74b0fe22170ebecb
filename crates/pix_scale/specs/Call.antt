-- The call that draws a window of a picture at another size: what it refuses, and what it writes.
use Rattle.std.specs.Prelude.{◌≡◌, ◌≢◌, ℕ, ◌+◌, ◌-◌, ◌*◌, ◌^◌, ◌<◌, List, [], map, slice_index_or, Bool, ◌&&◌, ◌||◌, nat_eq, nat_lt, nat_le, Option, Some, None, if◌then◌else◌}
use Rattle.std.specs.Option.{option_or}
use Rattle.pix_scale.specs.Axis.{Axis, axis, scaled, channel_at}
use Rattle.pix_scale.specs.declared.filter.Filter.{Filter}
use Rattle.pix_scale.specs.declared.shape.Rows.{Rows}
use Rattle.pix_scale.specs.declared.shape.View.{View}
use Rattle.pix_scale.specs.declared.fault.ScaleFault.{ScaleFault}
use Rattle.pix_scale.specs.declared.fault.ScaleFault.TheVariants.{NoSide, TooLarge, Outside, BadRows, BadSource, SmallWork}

-- whether rows, which may not overlap, lie in so many pixels; none is needed after the last row
abbrev pub fit_in : Rows → ℕ → Bool
fit_in rows count = nat_le rows.width rows.stride && (nat_eq rows.height 0 || nat_le ((rows.height - 1) * rows.stride + rows.width) count)

-- the words of work memory: the table across, a row of the table down, and a row of sums
abbrev pub words : ℕ → Filter → View → (to from : Rows) → ℕ
words count filter view to from =
    (to.width + to.width * (axis filter from.width view.across).taps) + ((axis filter from.height view.down).taps + from.width * count)

-- a fault, unless a test is passed, and then what follows
abbrev pub unless : Bool → ScaleFault → Option ScaleFault → Option ScaleFault
unless test fault rest = if test then rest else Some fault

-- the first that is wrong with the sizes, if any: no side is 0, the source is small, the sums of a
-- column fit 32 bits, and both wholes 31 bits together
abbrev pub size_fault : ℕ → Filter → View → Rows → Option ScaleFault
size_fault top filter view from =
    unless ((nat_lt 0 from.width && nat_lt 0 from.height) && (nat_lt 0 view.across && nat_lt 0 view.down)) NoSide
    (unless ((nat_le from.width 65535 && nat_le from.height 65535)
    && (nat_lt (top * (axis filter from.height view.down).whole) (2 ^ 32)
    && nat_lt ((axis filter from.width view.across).whole * (axis filter from.height view.down).whole) (2 ^ 31))) TooLarge None)

-- the first that is wrong with what was passed
abbrev pub memory_fault : ℕ → Filter → View → (to from : Rows) → (to_len from_len work_len : ℕ) → Option ScaleFault
memory_fault count filter view to from to_len from_len work_len =
    unless (nat_le (view.left + to.width) view.across && nat_le (view.top + to.height) view.down) Outside
    (unless (fit_in to to_len) BadRows
    (unless (fit_in from from_len) BadSource
    (unless (nat_le (words count filter view to from) work_len) SmallWork None)))

-- rows one after the other
abbrev pub whole_rows : (width height : ℕ) → Rows
whole_rows width height = record { width = width; height = height; stride = width }

-- the first that is wrong with the sizes or with the window, if any
abbrev pub window_fault : ℕ → Filter → View → (to from : Rows) → Option ScaleFault
window_fault top filter view to from =
    option_or (size_fault top filter view from) (unless (nat_le (view.left + to.width) view.across && nat_le (view.top + to.height) view.down) Outside None)

-- why a call is refused
abbrev pub scale_fault : (top count : ℕ) → Filter → View → (to from : Rows) → (to_len from_len work_len : ℕ) → Option ScaleFault
scale_fault top count filter view to from to_len from_len work_len =
    option_or (size_fault top filter view from) (memory_fault count filter view to from to_len from_len work_len)

-- At each point of a window the new pixels are those of the picture at another size, and everything
-- else stays.
pub record IsScaled {D : Type 0} (reads : D → List ℕ) (top count : ℕ) (across down : Axis) (view : View) (to from : Rows) (source old new : List D) : Type 0 where
  pub pixels : (x y c : ℕ) → x < to.width → y < to.height → c < count
      → channel_at (map reads new) to.stride c x y
      ≡ scaled top across down (channel_at (map reads source) from.stride c) (view.left + x) (view.top + y)
  pub stays : (place : ℕ) → ((x y : ℕ) → x < to.width → y < to.height → y * to.stride + x ≢ place)
      → slice_index_or (map reads new) place [] ≡ slice_index_or (map reads old) place []
