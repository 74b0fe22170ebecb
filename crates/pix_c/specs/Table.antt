-- The calls on tables of colors: what is refused, with which status.
use Rattle.std.specs.Prelude.{◌≡◌, ℕ, ◌*◌, ◌%◌, ◌<◌, List, [], ◌∷◌, Bool, true, ◌&&◌, nat_eq, nat_lt, nat_le, length, map, slice_index, Option, Some, None, if◌then◌else◌}
use Rattle.pix_table.specs.packing.LookUp.{all_below}
use Rattle.pix_table.specs.matching.Nearest.{alpha_of}
use Rattle.pix_table.specs.packing.Packing.{pack_fault, unpack_fault}
use Rattle.pix_table.specs.declared.diffuse.ScanOrder.{ScanOrder}
use Rattle.pix_table.specs.declared.diffuse.ScanOrder.TheVariants.{LeftToRight, Serpentine}
use Rattle.pix_table.specs.declared.packing.row.IndexDepth.{IndexDepth}
use Rattle.pix_table.specs.declared.packing.row.IndexDepth.TheVariants.{One, Two, Four, Eight}
use Rattle.pix_table.specs.declared.packing.row.RowFault.{RowFault}
use Rattle.pix_table.specs.declared.packing.row.RowFault.TheVariants.{Length, Index}

-- whether there are as many entries as a table has: at least one, and at most 256
abbrev pub is_table : ℕ → Bool
is_table len = nat_lt 0 len && nat_le len 256

-- the status of a search: 11 without a table, and else 0
abbrev pub nearest_status : ℕ → ℕ
nearest_status len = if is_table len then 0 else 11

-- the status of matching pixels: 11 without a table, 7 where there are not as many indices as
-- pixels, and else 0
abbrev pub map_indexed_status : (len pixels indices : ℕ) → ℕ
map_indexed_status len pixels indices = if is_table len then (if nat_eq indices pixels then 0 else 7) else 11

-- the status of matching pixels with an alpha: that of matching pixels, but a table without an entry
-- serves those whose alphas are all below one
abbrev pub map_indexed_alpha_status : (len alpha : ℕ) (pixels : List (List ℕ)) (indices : ℕ) → ℕ
map_indexed_alpha_status len alpha pixels indices =
    if nat_eq len 0 then (if nat_eq indices (length pixels) then (if all_below alpha (map alpha_of pixels) then 0 else 11) else 7)
    else map_indexed_status len (length pixels) indices

-- the status of making a table: 11 without room for one, 7 where work memory has fewer colors than
-- there are pixels, and else 0
abbrev pub quantize_status : (len pixels work : ℕ) → ℕ
quantize_status len pixels work = if is_table len then (if nat_le pixels work then 0 else 7) else 11

-- the scan order of a flag: serpentine where it is not 0
abbrev pub scan_of : ℕ → ScanOrder
scan_of serpentine = if nat_eq serpentine 0 then LeftToRight else Serpentine

-- whether rows can be scanned in an order: where they turn, all of them are whole
abbrev pub are_whole : ScanOrder → (pixels width : ℕ) → Bool
are_whole LeftToRight pixels width = true
are_whole Serpentine pixels width = nat_eq (pixels % width) 0

-- whether pixels are rows that can be scanned in an order, with as many indices, and with four rows of
-- work memory
abbrev pub are_rows : (pixels width : ℕ) → ScanOrder → (work indices : ℕ) → Bool
are_rows pixels width scan work indices = are_whole scan pixels width && nat_lt 0 width && nat_eq work (4 * width) && nat_eq indices pixels

-- the status of error diffusion in an order, with a strength: 11 without a table, 15 where the strength
-- is above 16, 7 where a length is wrong, and else 0
abbrev pub diffuse_by_status : (len pixels width strength : ℕ) → ScanOrder → (work indices : ℕ) → ℕ
diffuse_by_status len pixels width strength scan work indices =
    if is_table len then (if nat_le strength 16 then (if are_rows pixels width scan work indices then 0 else 7) else 15) else 11

-- the status of error diffusion of pixels with an alpha: the same, but a table without an entry serves
-- those whose alphas are all below one
abbrev pub diffuse_by_alpha_status : (len alpha : ℕ) (pixels : List (List ℕ)) (width strength : ℕ) → ScanOrder → (work indices : ℕ) → ℕ
diffuse_by_alpha_status len alpha pixels width strength scan work indices =
    if nat_eq len 0 then (if nat_le strength 16 then (if are_rows (length pixels) width scan work indices
    then (if all_below alpha (map alpha_of pixels) then 0 else 11) else 7) else 15)
    else diffuse_by_status len (length pixels) width strength scan work indices

-- the status of an indexing before its colors are set: 11 without room for a table; 7 where more
-- entries are used than there is room for, or there are not as many indices as pixels; and else 0
abbrev pub index_status : (len used pixels indices : ℕ) → ℕ
index_status len used pixels indices = if is_table len then (if nat_le used len && nat_eq indices pixels then 0 else 7) else 11

-- the status of looking indices up: 7 where there are not as many pixels, 12 where an index is past
-- the entries, and else 0
abbrev pub look_up_status : ℕ → List ℕ → ℕ → ℕ
look_up_status len indices pixels = if nat_eq pixels (length indices) then (if all_below len indices then 0 else 12) else 7

-- the status of counting: 12 where an index has no count, and else 0
abbrev pub count_status : ℕ → List ℕ → ℕ
count_status len indices = if all_below len indices then 0 else 12

-- the depth of a number of bits, if there is one
abbrev pub depth_of : ℕ → Option IndexDepth
depth_of bits =
    if nat_eq bits 1 then Some One
    else (if nat_eq bits 2 then Some Two
    else (if nat_eq bits 4 then Some Four
    else (if nat_eq bits 8 then Some Eight else None)))

-- the status of a row's fault: 7 for its length, 12 for an index, and 0 without one
abbrev pub row_status : Option RowFault → ℕ
row_status None = 0
row_status (Some Length) = 7
row_status (Some Index) = 12

-- the status of packing a row: 13 where there is no such depth, and else that of its fault
abbrev pub pack_status : Option IndexDepth → List ℕ → ℕ → ℕ
pack_status None indices len = 13
pack_status (Some depth) indices len = row_status (pack_fault depth indices len)

-- the status of unpacking a row: the same
abbrev pub unpack_status : Option IndexDepth → ℕ → ℕ → ℕ
unpack_status None len count = 13
unpack_status (Some depth) len count = row_status (unpack_fault depth len count)
