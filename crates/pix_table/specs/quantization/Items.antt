-- Colors that are counted: items, each a color and how often it stands. No clause of a public call cites this file.
use Rattle.std.specs.Prelude.{◌⊎◌, ◌≡◌, ℕ, zero, suc, ◌+◌, ◌*◌, ◌<◌, ◌≤◌, All, List, [], ◌∷◌, ◌++◌, cond, length, map, min, nat_lt, replicate, slice_index, slice_index_or, sum_by, take}
use Rattle.std.specs.List.{flat_map}
use Rattle.pix_table.specs.quantization.Cut.{AreBoxesBy, more_boxes}
use Rattle.pix_table.specs.quantization.Joins.{AreJoinedBy}
use Rattle.pix_table.specs.quantization.Places.{CannotBeCutBy}
use Rattle.pix_table.specs.declared.quantization.items.ColorCount.{ColorCount}

-- the count that a color stands for, by its first two numbers
abbrev pub count_of : List ℕ → ℕ
count_of color = slice_index color 0 + 256 * slice_index color 1

-- the color of item k: of so many pairs the first one of the pair, and one color each behind them
abbrev pub item_color : (colors : List (List ℕ)) (pairs k : ℕ) → List ℕ
item_color colors pairs k = cond (nat_lt k pairs) (slice_index_or colors (2 * k) []) (slice_index_or colors (pairs + k) [])

-- how often it stands: what the second one of the pair says, and once behind the pairs
abbrev pub item_count : (colors : List (List ℕ)) (pairs k : ℕ) → ℕ
item_count colors pairs k = cond (nat_lt k pairs) (count_of (slice_index_or colors (2 * k + 1) [])) 1

-- what a function makes of the colors of the first n items, added for each time that they stand
abbrev pub item_sum : (f : List ℕ → ℕ) (colors : List (List ℕ)) (pairs : ℕ) → ℕ → ℕ
item_sum f colors pairs zero = 0
item_sum f colors pairs (suc n) = item_sum f colors pairs n + item_count colors pairs n * f (item_color colors pairs n)

-- items are those of some colors: whatever a function makes of the colors, it is in all what it makes of the items
abbrev pub AreItemsOf : (colors items : List (List ℕ)) (pairs singles : ℕ) → Type 0
AreItemsOf colors items pairs singles = (f : List ℕ → ℕ) → sum_by f colors ≡ item_sum f items pairs (pairs + singles)

-- what a function makes of colors that are counted, added for each time that they were met, where another one says which color a key has
abbrev pub counted_sum : (key_color : ℕ → List ℕ) (f : List ℕ → ℕ) → List ColorCount → ℕ
counted_sum key_color f counts = sum_by (λ c. c.count * f (key_color c.key)) counts

-- Items in which each color stands beside its count: pairs of colors, the second of which stands for a count.
-- As numbers: those of the color, one a channel, and behind them how often it stands

-- the numbers of a pair
abbrev pub item_of : List (List ℕ) → List ℕ
item_of pair = slice_index_or pair 0 [] ++ count_of (slice_index_or pair 1 []) ∷ []

-- the numbers of pairs, by those of a color
abbrev pub pair_items : {X : Type 0} (numbers : X → List ℕ) → List (List X) → List (List ℕ)
pair_items numbers pairs = map (λ pair. item_of (map numbers pair)) pairs

-- how often an item stands, whose color has so many channels
abbrev pub times_of : (channels : ℕ) → List ℕ → ℕ
times_of channels item = slice_index item channels

-- the colors of some items, each as often as it stands
abbrev pub spread : (channels : ℕ) → List (List ℕ) → List (List ℕ)
spread channels items = flat_map (λ item. replicate (times_of channels item) (take channels item)) items

-- what some items weigh
abbrev pub weigh_items : (channels : ℕ) (weigh : List (List ℕ) → ℕ) → List (List ℕ) → ℕ
weigh_items channels weigh items = weigh (spread channels items)

-- an item has a number for each channel, and stands at least once
pub record IsItem (channels : ℕ) (item : List ℕ) : Type 0 where
  pub long : length item ≡ channels + 1
  pub some : 0 < times_of channels item

-- the table of some items, of at most so many entries: the items are cut into boxes, and then the colors of these are joined
pub record IsItemTable (channels : ℕ) (weigh : List (List ℕ) → ℕ) (middle : List (List ℕ) → List ℕ) (room : ℕ) (items table : List (List ℕ))
    : Type 0 where
  pub boxes : List (List (List ℕ))
  pub are : AreBoxesBy channels (weigh_items channels weigh) items boxes
  pub few : length boxes ≤ more_boxes room
  pub full : (length boxes ≡ more_boxes room) ⊎ All (CannotBeCutBy channels) boxes
  pub groups : List (List (List ℕ))
  pub joined : AreJoinedBy weigh (map (spread channels) boxes) groups
  pub many : length groups ≡ min room (length boxes)
  pub means : table ≡ map middle groups
