-- Filters whose weights may be negative: what counts for a new pixel, and how it is cut.
use Rattle.std.specs.Prelude.{◌≡◌, ◌≢◌, ℕ, ℤ, zero, suc, pos, ◌+ℤ◌, ◌-ℤ◌, ◌*ℤ◌, ◌+◌, ◌-◌, ◌*◌, ◌/◌, ◌%◌, ◌^◌, ◌<◌, min, max, List, [], map, slice_index_or, Bool, not, ◌&&◌, nat_eq, nat_lt, if◌then◌else◌}
use Rattle.std.specs.Int.{abs_diff}
use Rattle.pix_el.specs.Pixel.{Layout}
use Rattle.pix_chan.specs.Nearest.{nearest}
use Rattle.pix_scale.specs.Axis.{total, rounded_part, channel_at}
use Rattle.pix_scale.specs.declared.shape.Rows.{Rows}
use Rattle.pix_scale.specs.declared.filter.SignedFilter.{SignedFilter}
use Rattle.pix_scale.specs.declared.filter.SignedFilter.TheVariants.{CatmullRom, Mitchell, Lanczos}
use Rattle.pix_scale.specs.declared.signed_values.TheConstants.{CATMULL_ROM, MITCHELL, LANCZOS}

-- f 0 + f 1 + .. + f (n - 1)
abbrev pub total_of : ℕ → (ℕ → ℤ) → ℤ
total_of zero f = pos 0
total_of (suc n) f = total_of n f +ℤ f n

-- what counts for a place of a new side: so many places from the first on, each by its weight. The
-- weights add up to 2 ^ 14
pub record Taps : Type 0 where
  pub first : ℕ
  pub count : ℕ
  pub weight : ℕ → ℤ

-- the sum of numbers of the old picture, get u v at the point (u, v), by the weights of both sides
abbrev pub sum_by : Taps → Taps → (ℕ → ℕ → ℕ) → ℤ
sum_by across down get =
    total_of across.count (λ u. across.weight u *ℤ total_of down.count (λ v. down.weight v *ℤ pos (get (across.first + u) (down.first + v))))

-- where a pixel is cut, by the sums of its channels: at its new alpha, or else at the maximum
abbrev pub top_by : Layout → (ℕ → ℤ) → ℕ
top_by layout sums = if nat_lt layout.alpha layout.count then nearest layout.max (sums layout.alpha) (pos (2 ^ 28)) else layout.max

-- channel c of a new pixel: its sum over both wholes, rounded once to the nearest, ties up, cut
abbrev pub cut_by : Layout → (ℕ → ℤ) → ℕ → ℕ
cut_by layout sums c = nearest (top_by layout sums) (sums c) (pos (2 ^ 28))

-- how far a filter reaches, in places
abbrev pub reach : SignedFilter → ℕ
reach CatmullRom = 2
reach Mitchell = 2
reach Lanczos = 3

-- its values at distances of 64ths of a place, times 2 ^ 14 and plus 2 ^ 14
abbrev pub values : SignedFilter → List ℕ
values CatmullRom = CATMULL_ROM
values Mitchell = MITCHELL
values Lanczos = LANCZOS

-- its value at a distance of 2 ^ 16ths of a place, in proportion to the two next to it, times 2 ^ 24
-- and plus 2 ^ 24
abbrev pub raised : SignedFilter → ℕ → ℕ
raised filter d = slice_index_or (values filter) (d / 1024) 16384 * (1024 - d % 1024) + slice_index_or (values filter) (d / 1024 + 1) 16384 * (d % 1024)

-- the distance between the middles of places i and j, in 2 ^ 16ths of the longer of both, up to 4
abbrev pub apart : (n m i j : ℕ) → ℕ
apart n m i j = min (abs_diff ((2 * j + 1) * m) ((2 * i + 1) * n)) (8 * max n m) * 32768 / max n m

-- what places from the first on add for place i, and what they take away
abbrev pub adds : SignedFilter → (n m i first k : ℕ) → ℕ
adds filter n m i first k = raised filter (apart n m i (first + k)) - 16777216

abbrev pub takes : SignedFilter → (n m i first k : ℕ) → ℕ
takes filter n m i first k = 16777216 - raised filter (apart n m i (first + k))

-- the k-th of parts of a whole, times 2 ^ 14, each rounded as they add up
abbrev pub part_of : (ℕ → ℕ) → ℕ → ℕ → ℕ
part_of f whole k = rounded_part (total (k + 1) f) (2 * whole) - rounded_part (total k f) (2 * whole)

-- how many places count for a place of the new side, at most
abbrev pub taps_of_filter : SignedFilter → (places n m : ℕ) → ℕ
taps_of_filter filter places n m = min places (2 * reach filter * max n m / m + 1)

-- the first of them, and that where the nearest place alone counts
abbrev pub first_tap : SignedFilter → (places n m i : ℕ) → ℕ
first_tap filter places n m i = min (places - taps_of_filter filter places n m) (((2 * i + 1) * n + m - 2 * reach filter * max n m) / (2 * m))

abbrev pub first_near : SignedFilter → (places n m i : ℕ) → ℕ
first_near filter places n m i = min (places - taps_of_filter filter places n m) ((2 * i + 1) * n / (2 * m))

-- what they add, less what they take away
abbrev pub whole_of : SignedFilter → (places n m i : ℕ) → ℕ
whole_of filter places n m i =
    total (taps_of_filter filter places n m) (adds filter n m i (first_tap filter places n m i)) - total (taps_of_filter filter places n m) (takes filter n m i (first_tap filter places n m i))

-- whether a filter is used: where the side gets another length, and little is taken away
abbrev pub is_used : SignedFilter → (places n m i : ℕ) → Bool
is_used filter places n m i =
    not (nat_eq n m) && (nat_lt 0 (whole_of filter places n m i)
    && nat_lt (rounded_part (total (taps_of_filter filter places n m) (takes filter n m i (first_tap filter places n m i))) (2 * whole_of filter places n m i)) 8192)

-- what counts for place i, where n of a number of places become m: by the filter, or else the
-- nearest place
abbrev pub taps_by : SignedFilter → (places n m i : ℕ) → Taps
taps_by filter places n m i =
    if is_used filter places n m i then record {
      first = first_tap filter places n m i;
      count = taps_of_filter filter places n m;
      weight = λ k. pos (part_of (adds filter n m i (first_tap filter places n m i)) (whole_of filter places n m i) k)
          -ℤ pos (part_of (takes filter n m i (first_tap filter places n m i)) (whole_of filter places n m i) k);
    } else record {
      first = first_near filter places n m i;
      count = taps_of_filter filter places n m;
      weight = λ k. pos (if nat_eq (first_near filter places n m i + k) ((2 * i + 1) * n / (2 * m)) then 16384 else 0) -ℤ pos 0;
    }

-- At each point of a window the new pixels are those by the weights of its column and of its row,
-- and everything else stays.
pub record IsCut {D : Type 0} (reads : D → List ℕ) (layout : Layout) (across down : ℕ → Taps) (to from : Rows) (source old new : List D) : Type 0 where
  pub pixels : (x y c : ℕ) → x < to.width → y < to.height → c < layout.count
      → channel_at (map reads new) to.stride c x y
      ≡ cut_by layout (λ ch. sum_by (across x) (down y) (channel_at (map reads source) from.stride ch)) c
  pub stays : (place : ℕ) → ((x y : ℕ) → x < to.width → y < to.height → y * to.stride + x ≢ place)
      → slice_index_or (map reads new) place [] ≡ slice_index_or (map reads old) place []
