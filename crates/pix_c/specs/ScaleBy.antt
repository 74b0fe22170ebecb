-- The calls on pictures at another size by tables of the caller's own: what is refused, with which
-- status.
use Rattle.std.specs.Prelude.{ℕ, Option, Some, None}
use Rattle.pix_el.specs.Pixel.{Layout}
use Rattle.pix_scale.specs.WeightedCall.{weighted_words, taps_fault}
use Rattle.pix_scale.specs.declared.shape.Rows.{Rows}
use Rattle.pix_c.specs.Scale.{fault_status}

-- the status of asking for work memory: 6 without such pixels, and else that of what is wrong with
-- the source, or with the weights of a place
abbrev pub by_work_status : Option Layout → Rows → (taps row_taps : ℕ) → ℕ
by_work_status None from taps row_taps = 6
by_work_status (Some layout) from taps row_taps = fault_status (taps_fault from taps row_taps)

-- how many words it takes
abbrev pub by_work_words : Option Layout → (to from : Rows) → (taps row_taps : ℕ) → ℕ
by_work_words None to from taps row_taps = 0
by_work_words (Some layout) to from taps row_taps = weighted_words layout.count to from taps row_taps
