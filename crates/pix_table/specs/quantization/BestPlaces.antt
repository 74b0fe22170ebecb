-- Sums of the colors of a box, and the best of the places up to one. No clause of a public call cites this file.
use Rattle.std.specs.Prelude.{◌≡◌, ℕ, ◌+◌, ◌-◌, ◌*◌, ◌/◌, ◌<◌, ◌≤◌, All, Bool, true, List, cond, length, slice_index, slice_index_or, nat_eq, nat_lt, sum_by, count_by, Option, Some, None}
use Rattle.pix_table.specs.quantization.Places.{IsBefore, below, sum_in, weight}
use Rattle.pix_table.specs.declared.quantization.box_sums.Sums.{Sums}
use Rattle.pix_table.specs.declared.quantization.place.Place.{Place}

-- the sum of what a function makes of the colors that pass a test
abbrev pub sum_of : (List ℕ → Bool) → (List ℕ → ℕ) → List (List ℕ) → ℕ
sum_of p f box = sum_by (λ color. cond (p color) (f color) 0) box

-- how many colors of a box pass a test, and the sums of their numbers
pub record AreSums (p : List ℕ → Bool) (box : List (List ℕ)) (sums : Sums) : Type 0 where
  pub count : sums.count ≡ count_by p box
  pub red : sums.red ≡ sum_of p (λ color. slice_index color 0) box
  pub green : sums.green ≡ sum_of p (λ color. slice_index color 1) box
  pub blue : sums.blue ≡ sum_of p (λ color. slice_index color 2) box

-- whether the numbers of a color are bytes
abbrev pub AreBytes : List ℕ → Type 0
AreBytes color = (k : ℕ) → slice_index color k ≤ 255

-- the test of colors whose number in a channel is a value, and that of those where it is below the value
abbrev pub is_at : (channel value : ℕ) → List ℕ → Bool
is_at channel value color = nat_eq (slice_index color channel) value

abbrev pub is_below : (channel value : ℕ) → List ℕ → Bool
is_below channel value color = nat_lt (slice_index color channel) value

-- what a function says of the sums of the parts of some colors, where another says in which of so many parts a color is
pub record ArePartedBy {S : Type 0} (are : (List ℕ → Bool) → List (List ℕ) → S → Type 0) (at : List ℕ → ℕ) (count : ℕ)
    (colors : List (List ℕ)) (parts : List S) : Type 0 where
  pub many : length parts ≡ count
  pub each : (k : ℕ) (d : S) → k < count → are (λ color. nat_eq (at color) k) colors (slice_index_or parts k d)

-- the sums of the parts of some colors
abbrev pub AreParted : (at : List ℕ → ℕ) (count : ℕ) (colors : List (List ℕ)) (parts : List Sums) → Type 0
AreParted at count colors parts = ArePartedBy AreSums at count colors parts

-- the sums of the colors of each value of a channel
abbrev pub AreByValue : (channel : ℕ) → List (List ℕ) → List Sums → Type 0
AreByValue channel box parts = AreParted (λ color. slice_index color channel) 256 box parts

-- the two channels beside another
abbrev pub other : ℕ → ℕ
other channel = cond (nat_eq channel 0) 1 0

abbrev pub another : ℕ → ℕ
another channel = cond (nat_lt channel 2) 2 1

-- a color in one number: a one, and the numbers of the channels beside another
abbrev pub word_of : ℕ → List ℕ → ℕ
word_of channel color = 281474976710656 + slice_index color (other channel) * 16777216 + slice_index color (another channel)

-- for each value of a channel the sum of such numbers of the colors that have it
pub record AreWords (channel : ℕ) (box : List (List ℕ)) (words : List ℕ) : Type 0 where
  pub many : length words ≡ 256
  pub each : (value : ℕ) → value < 256 → slice_index words value ≡ sum_of (is_at channel value) (word_of channel) box

-- such numbers of at most so many colors that their parts fit
abbrev pub AreBlockWords : (words : List ℕ) (channel : ℕ) → List (List ℕ) → Type 0
AreBlockWords words channel box = (length box ≤ 65535) × All AreBytes box × AreWords channel box words

-- what a search for the best place in a channel knows of a box that has a color: a number that none is below, the sums of the colors of
-- each value, and of all
pub record HasSums {P : Type 0} (sums : P → ℕ → List (List ℕ) → Type 0) (parts : P) (channel first : ℕ) (all : Sums) (box : List (List ℕ))
    : Type 0 where
  pub some : 0 < length box
  pub least : All (λ color. first ≤ slice_index color channel) box
  pub each : sums parts channel box
  pub whole : AreSums (λ color. true) box all
  pub bytes : All AreBytes box

-- what a count and three sums weigh
abbrev pub weight_by : (count red green blue : ℕ) → ℕ
weight_by count red green blue = (red * red + green * green + blue * blue) / count

-- whether the one are sums of a part of the colors of the other, but not of all
pub record ArePart (low all : Sums) : Type 0 where
  pub some : 0 < low.count
  pub others : low.count < all.count
  pub red : low.red ≤ all.red
  pub green : low.green ≤ all.green
  pub blue : low.blue ≤ all.blue
  pub low_red : low.red ≤ 255 * low.count
  pub low_green : low.green ≤ 255 * low.count
  pub low_blue : low.blue ≤ 255 * low.count
  pub high_red : all.red - low.red ≤ 255 * (all.count - low.count)
  pub high_green : all.green - low.green ≤ 255 * (all.count - low.count)
  pub high_blue : all.blue - low.blue ≤ 255 * (all.count - low.count)

-- what the colors of a box below a place weigh, and what the others do
abbrev pub sum_below : (channel value k : ℕ) → List (List ℕ) → ℕ
sum_below channel value k box = sum_of (is_below channel value) (λ color. slice_index color k) box

abbrev pub low_weight : (channel value : ℕ) → List (List ℕ) → ℕ
low_weight channel value box =
    weight_by (below channel value box) (sum_below channel value 0 box) (sum_below channel value 1 box) (sum_below channel value 2 box)

abbrev pub high_weight : (channel value : ℕ) → List (List ℕ) → ℕ
high_weight channel value box =
    weight_by (length box - below channel value box) (sum_in 0 box - sum_below channel value 0 box) (sum_in 1 box - sum_below channel value 1 box)
    (sum_in 2 box - sum_below channel value 2 box)

-- what a cut at a place gains
abbrev pub gain_at : (channel value : ℕ) → List (List ℕ) → ℕ
gain_at channel value box = low_weight channel value box + high_weight channel value box - weight box

-- whether a box can be cut at a place
pub record CanCutBy (channels : ℕ) (box : List (List ℕ)) (channel value : ℕ) : Type 0 where
  pub stands : channel < channels
  pub some_below : 0 < below channel value box
  pub some_others : below channel value box < length box

-- the best of the places before another, where it is known what a cut at each gains
pub record IsBestBeforeBy (channels : ℕ) (gains_at : (channel value : ℕ) → List (List ℕ) → ℕ) (box : List (List ℕ)) (channel value : ℕ)
    (place : Place) : Type 0 where
  pub before : IsBefore place.channel place.value channel value
  pub cut : CanCutBy channels box place.channel place.value
  pub gains : gains_at place.channel place.value box ≡ place.gain
  pub best : (c v : ℕ) → IsBefore c v channel value → CanCutBy channels box c v → gains_at c v box ≤ place.gain
  pub first : (c v : ℕ) → IsBefore c v place.channel place.value → CanCutBy channels box c v → gains_at c v box < place.gain

-- the same, or none where the box can be cut at none of them
abbrev pub IsBestUpToBy : (channels : ℕ) (gains_at : (channel value : ℕ) → List (List ℕ) → ℕ) (box : List (List ℕ)) (channel value : ℕ)
    → Option Place → Type 0
IsBestUpToBy channels gains_at box channel value None = (c v : ℕ) → IsBefore c v channel value → CanCutBy channels box c v → ⊥
IsBestUpToBy channels gains_at box channel value (Some place) = IsBestBeforeBy channels gains_at box channel value place

-- the same for red, green and blue
abbrev pub CanCut : (box : List (List ℕ)) (channel value : ℕ) → Type 0
CanCut box channel value = CanCutBy 3 box channel value

abbrev pub IsBestBefore : (box : List (List ℕ)) (channel value : ℕ) (place : Place) → Type 0
IsBestBefore box channel value place = IsBestBeforeBy 3 gain_at box channel value place

abbrev pub IsBestUpTo : (box : List (List ℕ)) (channel value : ℕ) → Option Place → Type 0
IsBestUpTo box channel value place = IsBestUpToBy 3 gain_at box channel value place
