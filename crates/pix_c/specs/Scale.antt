-- The calls on pictures at another size: filters by number, and what is refused, with which status.
use Rattle.std.specs.Prelude.{◌≡◌, ℕ, ◌+◌, List, Bool, ◌&&◌, nat_eq, Option, Some, None, if◌then◌else◌}
use Rattle.pix_el.specs.Pixel.{Layout}
use Rattle.pix_flat.specs.Format.{rgba8, rgba16, graya8}
use Rattle.pix_scale.specs.Axis.{axis}
use Rattle.pix_scale.specs.Call.{size_fault, scale_fault, words, IsScaled}
use Rattle.pix_scale.specs.Signed.{IsCut}
use Rattle.pix_scale.specs.SignedCall.{signed_taps, signed_words, signed_size_fault, signed_fault}
use Rattle.pix_scale.specs.declared.filter.Filter.{Filter}
use Rattle.pix_scale.specs.declared.filter.Filter.TheVariants.{Nearest, Area, Linear}
use Rattle.pix_scale.specs.declared.filter.SignedFilter.{SignedFilter}
use Rattle.pix_scale.specs.declared.filter.SignedFilter.TheVariants.{CatmullRom, Mitchell, Lanczos}
use Rattle.pix_scale.specs.declared.shape.Rows.{Rows}
use Rattle.pix_scale.specs.declared.shape.View.{View}
use Rattle.pix_scale.specs.declared.fault.ScaleFault.{ScaleFault}
use Rattle.pix_scale.specs.declared.fault.ScaleFault.TheVariants.{NoSide, TooLarge, Outside, BadRows, BadSource, BadWeights, SmallWork}

-- the filter of a number, if there is one
abbrev pub filter_of : ℕ → Option Filter
filter_of number =
    if nat_eq number 0 then Some Nearest
    else (if nat_eq number 1 then Some Area
    else (if nat_eq number 2 then Some Linear else None))

-- the status of a fault, and 0 without one
abbrev pub fault_status : Option ScaleFault → ℕ
fault_status None = 0
fault_status (Some NoSide) = 16
fault_status (Some TooLarge) = 17
fault_status (Some Outside) = 18
fault_status (Some BadRows) = 1
fault_status (Some BadSource) = 5
fault_status (Some BadWeights) = 21
fault_status (Some SmallWork) = 19

-- the rows of a number of columns and rows, a stride apart
abbrev pub rows_of : (width height stride : ℕ) → Rows
rows_of width height stride = record { width = width; height = height; stride = stride }

-- the part of a picture of that size that begins at a point of it
abbrev pub view_of : (left top across down : ℕ) → View
view_of left top across down = record { left = left; top = top; across = across; down = down }

-- the filter of a number whose weights may be negative, if there is one
abbrev pub signed_of : ℕ → Option SignedFilter
signed_of number =
    if nat_eq number 3 then Some CatmullRom
    else (if nat_eq number 4 then Some Mitchell
    else (if nat_eq number 5 then Some Lanczos else None))

-- the status of drawing a picture at another size: 20 where there is no such filter, and else that
-- of its fault
abbrev pub scale_status : Layout → Option Filter → Option SignedFilter → View → (to from : Rows) → (to_len from_len work_len : ℕ) → ℕ
scale_status layout None None view to from to_len from_len work_len = 20
scale_status layout None (Some filter) view to from to_len from_len work_len =
    fault_status (signed_fault layout.count filter view to from to_len from_len work_len)
scale_status layout (Some filter) signed view to from to_len from_len work_len =
    fault_status (scale_fault layout.max layout.count filter view to from to_len from_len work_len)

-- each pixel of the window is that of the picture at another size by the filter, if there is one,
-- and everything else stays
abbrev pub IsScaledBy : {D : Type 0} → (D → List ℕ) → Layout → Option Filter → Option SignedFilter → View → (to from : Rows) → (source old new : List D) → Type 0
IsScaledBy reads layout None None view to from source old new = new ≡ old
IsScaledBy reads layout None (Some filter) view to from source old new =
    IsCut reads layout (λ x. signed_taps filter from.width view.across (view.left + x)) (λ y. signed_taps filter from.height view.down (view.top + y)) to from source old new
IsScaledBy reads layout (Some filter) signed view to from source old new =
    IsScaled reads layout.max layout.count (axis filter from.width view.across) (axis filter from.height view.down) view to from source old new

-- the layout of pixels of so many channels of so many bits, if there is one
abbrev pub layout_of_bits : (channels bits : ℕ) → Option Layout
layout_of_bits channels bits =
    if nat_eq channels 4 && nat_eq bits 8 then Some rgba8
    else (if nat_eq channels 4 && nat_eq bits 16 then Some rgba16
    else (if nat_eq channels 2 && nat_eq bits 8 then Some graya8 else None))

-- the status of asking for work memory: 20 without a filter, 6 without such pixels, and else that
-- of what is wrong with the sizes
abbrev pub work_status : Option Layout → Option Filter → Option SignedFilter → View → Rows → ℕ
work_status layout None None view from = 20
work_status None None (Some filter) view from = 6
work_status (Some layout) None (Some filter) view from = fault_status (signed_size_fault view from)
work_status None (Some filter) signed view from = 6
work_status (Some layout) (Some filter) signed view from = fault_status (size_fault layout.max filter view from)

-- how many words it takes
abbrev pub work_words : Option Layout → Option Filter → Option SignedFilter → View → (to from : Rows) → ℕ
work_words None filter signed view to from = 0
work_words (Some layout) None None view to from = 0
work_words (Some layout) None (Some filter) view to from = signed_words layout.count filter view to from
work_words (Some layout) (Some filter) signed view to from = words layout.count filter view to from
