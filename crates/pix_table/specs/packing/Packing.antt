-- Indices of 1, 2, 4 or 8 bits in the bytes of a row, most significant first.
use Rattle.std.specs.Prelude.{◌≡◌, ℕ, ◌+◌, ◌-◌, ◌*◌, ◌/◌, ◌%◌, ◌^◌, ◌<◌, List, length, slice_index, Option, Some, None, nat_eq, if◌then◌else◌}
use Rattle.pix_table.specs.declared.packing.row.IndexDepth.{IndexDepth}
use Rattle.pix_table.specs.declared.packing.row.IndexDepth.TheVariants.{One, Two, Four, Eight}
use Rattle.pix_table.specs.declared.packing.row.RowFault.{RowFault}
use Rattle.pix_table.specs.declared.packing.row.RowFault.TheVariants.{Length, Index}
use Rattle.pix_table.specs.packing.LookUp.{all_below}

-- how many bits an index takes
abbrev pub bits : IndexDepth → ℕ
bits One = 1
bits Two = 2
bits Four = 4
bits Eight = 8

-- how many indices a byte holds
abbrev pub places : IndexDepth → ℕ
places depth = 8 / bits depth

-- the number that the bits of place t of a byte spell; place 0 has the most significant
abbrev pub place : IndexDepth → ℕ → ℕ → ℕ
place depth byte t = byte / 2 ^ (8 - bits depth * (t + 1)) % 2 ^ bits depth

-- how many bytes a row of a number of indices takes
abbrev pub row_size : IndexDepth → ℕ → ℕ
row_size depth count = (count + (places depth - 1)) / places depth

-- the places of the bytes hold the indices in order; those that are left over in the last byte hold
-- 0
pub record ArePacked (depth : IndexDepth) (indices bytes : List ℕ) : Type 0 where
  pub many : length bytes ≡ row_size depth (length indices)
  pub each : (j t : ℕ) → j < length bytes → t < places depth → place depth (slice_index bytes j) t ≡ slice_index indices (j * places depth + t)

-- each index is what its place holds
pub record AreUnpacked (depth : IndexDepth) (bytes indices : List ℕ) : Type 0 where
  pub each : (i : ℕ) → i < length indices → slice_index indices i ≡ place depth (slice_index bytes (i / places depth)) (i % places depth)

-- why a row of indices is not packed into a number of bytes: the row takes another number, or an
-- index takes more bits; or none, where it is packed
abbrev pub pack_fault : IndexDepth → List ℕ → ℕ → Option RowFault
pack_fault depth indices len =
    if nat_eq len (row_size depth (length indices)) then (if all_below (2 ^ bits depth) indices then None else Some Index) else Some Length

-- why a number of bytes is not unpacked: the row takes another number; or none
abbrev pub unpack_fault : IndexDepth → ℕ → ℕ → Option RowFault
unpack_fault depth len count = if nat_eq len (row_size depth count) then None else Some Length
