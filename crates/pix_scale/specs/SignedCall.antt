-- The call that draws a window of a picture at another size by weights that may be negative: what
-- it refuses.
use Rattle.std.specs.Prelude.{ℕ, ◌+◌, ◌*◌, ◌&&◌, nat_lt, nat_le, Option, None}
use Rattle.std.specs.Option.{option_or}
use Rattle.pix_scale.specs.Axis.{lowest}
use Rattle.pix_scale.specs.Call.{fit_in, unless}
use Rattle.pix_scale.specs.Signed.{Taps, taps_of_filter, taps_by}
use Rattle.pix_scale.specs.declared.filter.SignedFilter.{SignedFilter}
use Rattle.pix_scale.specs.declared.shape.Rows.{Rows}
use Rattle.pix_scale.specs.declared.shape.View.{View}
use Rattle.pix_scale.specs.declared.fault.ScaleFault.{ScaleFault}
use Rattle.pix_scale.specs.declared.fault.ScaleFault.TheVariants.{NoSide, TooLarge, Outside, BadRows, BadSource, SmallWork}

-- what counts for place i where n places become m, by a filter, and how many places do
abbrev pub signed_taps : SignedFilter → ℕ → ℕ → ℕ → Taps
signed_taps filter n m i = taps_by filter n (lowest n m) (lowest m n) i

abbrev pub signed_count : SignedFilter → ℕ → ℕ → ℕ
signed_count filter n m = taps_of_filter filter n (lowest n m) (lowest m n)

-- the words of work memory: both tables, and two rows of sums
abbrev pub signed_words : ℕ → SignedFilter → View → (to from : Rows) → ℕ
signed_words count filter view to from =
    (to.width + 2 * (to.width * signed_count filter from.width view.across)) + ((to.height + 2 * (to.height * signed_count filter from.height view.down)) + 2 * (from.width * count))

-- the first that is wrong with the sizes, if any
abbrev pub signed_size_fault : View → Rows → Option ScaleFault
signed_size_fault view from =
    unless ((nat_lt 0 from.width && nat_lt 0 from.height) && (nat_lt 0 view.across && nat_lt 0 view.down)) NoSide
    (unless (nat_le from.width 65535 && nat_le from.height 65535) TooLarge None)

-- the first that is wrong with what was passed
abbrev pub signed_memory_fault : ℕ → SignedFilter → View → (to from : Rows) → (to_len from_len work_len : ℕ) → Option ScaleFault
signed_memory_fault count filter view to from to_len from_len work_len =
    unless (nat_le (view.left + to.width) view.across && nat_le (view.top + to.height) view.down) Outside
    (unless (fit_in to to_len) BadRows
    (unless (fit_in from from_len) BadSource
    (unless (nat_le (signed_words count filter view to from) work_len) SmallWork None)))

-- why a call is refused
abbrev pub signed_fault : ℕ → SignedFilter → View → (to from : Rows) → (to_len from_len work_len : ℕ) → Option ScaleFault
signed_fault count filter view to from to_len from_len work_len =
    option_or (signed_size_fault view from) (signed_memory_fault count filter view to from to_len from_len work_len)
