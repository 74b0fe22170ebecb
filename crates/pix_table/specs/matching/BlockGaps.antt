-- How far a color is at least from those that lie between two others. No clause of a public call
-- cites this file.
use Rattle.std.specs.Prelude.{ℕ, ◌+◌, ◌-◌, ◌*◌, List, slice_index}

-- the square of how far a number is from those between two others
abbrev pub gap : (low high n : ℕ) → ℕ
gap low high n = ((low - n) + (n - high)) * ((low - n) + (n - high))

-- the same for red, green and blue of a color, added
abbrev pub block_gap : (low high color : List ℕ) → ℕ
block_gap low high color =
    gap (slice_index low 0) (slice_index high 0) (slice_index color 0) + gap (slice_index low 1) (slice_index high 1) (slice_index color 1)
    + gap (slice_index low 2) (slice_index high 2) (slice_index color 2)
