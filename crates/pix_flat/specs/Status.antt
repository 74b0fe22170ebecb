-- What is refused, and with which status.
use Rattle.std.specs.Prelude.{ℕ, suc, ◌+◌, ◌-◌, ◌*◌, List, [], ◌∷◌, length, Bool, true, not, ◌&&◌, ◌||◌, nat_eq, nat_lt, nat_le, if◌then◌else◌}
use Rattle.pix_ops.specs.OperatorNames.{operators}
use Rattle.pix_raster.specs.Region.{limit}
use Rattle.pix_flat.specs.declared.command.PixRegion.{PixRegion}
use Rattle.pix_flat.specs.declared.command.FlatCommand.{FlatCommand}

-- whether the rows of an image, a stride apart, lie in a number of elements; none is needed after
-- the last row
abbrev pub is_sized : (width height stride count : ℕ) → Bool
is_sized width height stride count =
    nat_le width limit && (nat_le height limit && (nat_le width stride
    && (nat_eq height 0 || nat_le ((height - 1) * stride + width) count)))

-- whether the sides of a region are within the limit
abbrev pub fits : PixRegion → Bool
fits r = nat_le r.width limit && nat_le r.height limit

-- whether the rows of a command's image, of its mattes as a source and of its mask lie in what was
-- passed
abbrev pub has_pixels : {D M : Type 0} → FlatCommand D M → Bool
has_pixels c = is_sized c.width c.height c.stride (length c.pixels.now)

abbrev pub has_mattes : {D M : Type 0} → FlatCommand D M → Bool
has_mattes c = is_sized c.width c.height c.stride (length c.mattes.now)

abbrev pub has_mask : {D M : Type 0} → FlatCommand D M → Bool
has_mask c = is_sized c.mask_width c.mask_height c.mask_stride (length c.mattes.now)

-- whether a command has what its kind reads: the pixels of an image that is copied (2) or
-- composited (4, at an opacity 7), the mattes of a color (5), or the pixels of an image and its
-- mask (6)
abbrev pub has_source : {D M : Type 0} → FlatCommand D M → Bool
has_source c =
    if nat_eq c.kind 2 || (nat_eq c.kind 4 || nat_eq c.kind 7) then has_pixels c
    else (if nat_eq c.kind 5 then has_mattes c
    else (if nat_eq c.kind 6 then has_pixels c && has_mask c else true))

-- why a command is refused: 2 for its kind, 3 for a region, 4 for its operator, 5 for its source or
-- its mask, and 0 if it is not
abbrev pub fault_of : {D M : Type 0} → FlatCommand D M → ℕ
fault_of c =
    if nat_lt 7 c.kind then 2
    else (if not (fits c.to && (fits c.from && fits c.mask)) then 3
    else (if nat_le (length operators) c.op then 4
    else (if has_source c then 0 else 5)))

-- the fault of the first command that is refused, and 0 if none is
abbrev pub first_fault : {D M : Type 0} → List (FlatCommand D M) → ℕ
first_fault [] = 0
first_fault (c ∷ cs) = if nat_eq (fault_of c) 0 then first_fault cs else fault_of c

-- how many commands come before it, and all of them if none is refused
abbrev pub count_before_fault : {D M : Type 0} → List (FlatCommand D M) → ℕ
count_before_fault [] = 0
count_before_fault (c ∷ cs) = if nat_eq (fault_of c) 0 then suc (count_before_fault cs) else 0

-- whether a number of columns, or rows, from the first on end within the limit
abbrev pub is_placed : (first count : ℕ) → Bool
is_placed first count = nat_le (first + count) limit

-- whether a window of a picture ends within the limit, and its rows lie in a number of elements
abbrev pub is_window : (left top width height stride count : ℕ) → Bool
is_window left top width height stride count = (is_placed left width && is_placed top height) && is_sized width height stride count

-- the status of a list of commands on a window of a picture: 1 if it is not a window in its pixels,
-- and else the first fault
abbrev pub window_status_of : {D M : Type 0} → (left top width height stride count : ℕ) → List (FlatCommand D M) → ℕ
window_status_of left top width height stride count commands = if is_window left top width height stride count then first_fault commands else 1

-- the index of the first command that is refused on a window
abbrev pub window_done_of : {D M : Type 0} → (left top width height stride count : ℕ) → List (FlatCommand D M) → ℕ
window_done_of left top width height stride count commands = if is_window left top width height stride count then count_before_fault commands else 0
