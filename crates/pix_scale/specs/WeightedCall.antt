-- The call that draws a picture at another size by tables of the caller's own: what it refuses.
use Rattle.std.specs.Prelude.{ℕ, ℤ, ◌+◌, ◌*◌, List, ◌&&◌, nat_lt, nat_le, Option, None}
use Rattle.std.specs.Option.{option_or}
use Rattle.pix_scale.specs.Call.{fit_in, unless}
use Rattle.pix_scale.specs.Weighted.{is_table}
use Rattle.pix_scale.specs.declared.shape.Rows.{Rows}
use Rattle.pix_scale.specs.declared.fault.ScaleFault.{ScaleFault}
use Rattle.pix_scale.specs.declared.fault.ScaleFault.TheVariants.{NoSide, TooLarge, BadRows, BadSource, BadWeights, SmallWork}

-- the words of work memory: both tables, as they add and as they take away, and two rows of sums
abbrev pub weighted_words : (count : ℕ) → (to from : Rows) → (taps lines_taps : ℕ) → ℕ
weighted_words count to from taps lines_taps = 2 * (to.width * taps) + (2 * (to.height * lines_taps) + 2 * (from.width * count))

-- the first that is wrong with the source's sides, if any
abbrev pub side_fault : Rows → Option ScaleFault
side_fault from = unless (nat_lt 0 from.width && nat_lt 0 from.height) NoSide (unless (nat_le from.width 65535 && nat_le from.height 65535) TooLarge None)

-- the same, or that a table has more weights for a place than a side has places
abbrev pub taps_fault : Rows → (taps lines_taps : ℕ) → Option ScaleFault
taps_fault from taps lines_taps = option_or (side_fault from) (unless (nat_le taps from.width && nat_le lines_taps from.height) BadWeights None)

-- why a call is refused
abbrev pub weighted_fault : (count : ℕ) → (to from : Rows) → (firsts : List ℕ) → (taps : ℕ) → (weights : List ℤ) → (lines : List ℕ) → (lines_taps : ℕ) → (lines_weights : List ℤ) → (to_len from_len work_len : ℕ) → Option ScaleFault
weighted_fault count to from firsts taps weights lines lines_taps lines_weights to_len from_len work_len =
    option_or (side_fault from) (unless (fit_in to to_len) BadRows
    (unless (fit_in from from_len) BadSource
    (unless (is_table from.width to.width firsts taps weights && is_table from.height to.height lines lines_taps lines_weights) BadWeights
    (unless (nat_le (weighted_words count to from taps lines_taps) work_len) SmallWork None))))
