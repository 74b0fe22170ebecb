-- Sums of the seen colors of a box. No clause of a public call cites this file.
use Rattle.std.specs.Prelude.{◌≡◌, ℕ, ◌+◌, ◌-◌, ◌*◌, ◌<◌, ◌≤◌, Bool, List, All, length, slice_index, count_by, true}
use Rattle.pix_table.specs.quantization.Places.{below, sum_in}
use Rattle.pix_table.specs.quantization.BestPlaces.{ArePartedBy, sum_below, sum_of, weight_by}
use Rattle.pix_table.specs.SeenPixels.{AreSeen}
use Rattle.pix_table.specs.quantization.SeenCut.{seen_weight}
use Rattle.pix_table.specs.declared.rgba.sums.SeenSums.{SeenSums}

-- how many colors of a box pass a test, and the sums of their numbers
pub record AreSeenSums (p : List ℕ → Bool) (box : List (List ℕ)) (sums : SeenSums) : Type 0 where
  pub count : sums.count ≡ count_by p box
  pub red : sums.red ≡ sum_of p (λ color. slice_index color 0) box
  pub green : sums.green ≡ sum_of p (λ color. slice_index color 1) box
  pub blue : sums.blue ≡ sum_of p (λ color. slice_index color 2) box
  pub alpha : sums.alpha ≡ sum_of p (λ color. slice_index color 3) box

-- the sums may be those of colors that are seen
pub record AreFew (sums : SeenSums) : Type 0 where
  pub red : sums.red ≤ sums.alpha
  pub green : sums.green ≤ sums.alpha
  pub blue : sums.blue ≤ sums.alpha
  pub alpha : sums.alpha ≤ 255 * sums.count

-- the sums of the colors of each value of a channel
abbrev pub AreSeenByValue : (channel : ℕ) → List (List ℕ) → List SeenSums → Type 0
AreSeenByValue channel box parts = ArePartedBy AreSeenSums (λ color. slice_index color channel) 256 box parts

-- the sums of a box of seen colors: of all of them, and of those of each value of a channel
pub record IsSummed (channel : ℕ) (box : List (List ℕ)) (parts : List SeenSums) (all : SeenSums) : Type 0 where
  pub some : 0 < length box
  pub few : length box < 18446744073709551616
  pub seen : All AreSeen box
  pub values : AreSeenByValue channel box parts
  pub whole : AreSeenSums (λ color. true) box all

-- what a count and four sums weigh, over black and over white
abbrev pub seen_weight_by : (count red green blue alpha : ℕ) → ℕ
seen_weight_by count red green blue alpha =
    weight_by count red green blue
    + weight_by count (red + (255 * count - alpha)) (green + (255 * count - alpha)) (blue + (255 * count - alpha))

-- the squares of such sums, over black and over white, added
abbrev pub seen_squares : (count red green blue alpha : ℕ) → ℕ
seen_squares count red green blue alpha =
    red * red + green * green + blue * blue
    + ((red + (255 * count - alpha)) * (red + (255 * count - alpha)) + (green + (255 * count - alpha)) * (green + (255 * count - alpha))
    + (blue + (255 * count - alpha)) * (blue + (255 * count - alpha)))

-- whether the one are sums of a part of the colors of the other, but not of all
pub record AreSeenPart (low all : SeenSums) : Type 0 where
  pub some : 0 < low.count
  pub others : low.count < all.count
  pub red : low.red ≤ all.red
  pub green : low.green ≤ all.green
  pub blue : low.blue ≤ all.blue
  pub alpha : low.alpha ≤ all.alpha
  pub low_few : AreFew low
  pub high_red : all.red - low.red ≤ all.alpha - low.alpha
  pub high_green : all.green - low.green ≤ all.alpha - low.alpha
  pub high_blue : all.blue - low.blue ≤ all.alpha - low.alpha
  pub high_alpha : all.alpha - low.alpha ≤ 255 * (all.count - low.count)

-- what the colors of a box below a place weigh, and what the others do
abbrev pub low_seen_weight : (channel value : ℕ) → List (List ℕ) → ℕ
low_seen_weight channel value box =
    seen_weight_by (below channel value box) (sum_below channel value 0 box) (sum_below channel value 1 box) (sum_below channel value 2 box)
    (sum_below channel value 3 box)

abbrev pub high_seen_weight : (channel value : ℕ) → List (List ℕ) → ℕ
high_seen_weight channel value box =
    seen_weight_by (length box - below channel value box) (sum_in 0 box - sum_below channel value 0 box)
    (sum_in 1 box - sum_below channel value 1 box) (sum_in 2 box - sum_below channel value 2 box) (sum_in 3 box - sum_below channel value 3 box)

-- what a cut at a place gains
abbrev pub seen_gain_at : (channel value : ℕ) → List (List ℕ) → ℕ
seen_gain_at channel value box = low_seen_weight channel value box + high_seen_weight channel value box - seen_weight box
