-- The levels of gray of some colors, and sums of them. No clause of a public call cites this file.
use Rattle.std.specs.Prelude.{◌≡◌, ℕ, zero, suc, ◌+◌, ◌-◌, ◌*◌, ◌^◌, ◌<◌, ◌≤◌, List, [], ◌∷◌, length, min, slice_index, slice_index_or, sum_by}
use Rattle.pix_table.specs.matching.Nearest.{squared_difference}
use Rattle.pix_table.specs.quantization.Totals.{HasRoom, total, middle, error_at}
use Rattle.pix_table.specs.declared.color.Color.{Color}
use Rattle.pix_table.specs.declared.quantization.gray_levels.Levels.{Levels}
use Rattle.pix_table.specs.declared.quantization.gray_levels.LevelSums.{LevelSums}

-- how many colors have each of some levels, and the levels
abbrev pub weights : Levels → ℕ → ℕ
weights levels i = slice_index levels.counts i

abbrev pub values : Levels → ℕ → ℕ
values levels i = slice_index levels.values i

-- levels that fall, each of which some color has
pub record AreLevels (w x : ℕ → ℕ) (d : ℕ) : Type 0 where
  pub few : d ≤ 256
  pub some : (i : ℕ) → i < d → 0 < w i
  pub falls : (i j : ℕ) → i ≤ j → j < d → x j ≤ x i
  pub bytes : (i : ℕ) → i < d → x i ≤ 255
  pub fit : total w x (λ v. 1) d < 2 ^ 64

-- the levels are those of some colors, by their red
abbrev pub AreLevelsOf : (w x : ℕ → ℕ) (d : ℕ) (colors : List Color) → Type 0
AreLevelsOf w x d colors = (f : ℕ → ℕ) → sum_by (λ (color : Color). f color.red) colors ≡ total w x f d

-- the sums of the levels before each
pub record AreSumsOf (w x : ℕ → ℕ) (d : ℕ) (all : LevelSums) : Type 0 where
  pub levels : AreLevels w x d
  pub counts : (i : ℕ) → i ≤ d → slice_index all.counts i ≡ total w x (λ v. 1) i
  pub sums : (i : ℕ) → i ≤ d → slice_index all.sums i ≡ total w x (λ v. v) i
  pub squares : (i : ℕ) → i ≤ d → slice_index all.squares i ≡ total w x (λ v. v * v) i

-- the mean of the levels a up to b, and the sum of their squared errors to it
abbrev pub mean_of : LevelSums → ℕ → ℕ → ℕ
mean_of sums a b = middle (slice_index sums.counts b - slice_index sums.counts a) (slice_index sums.sums b - slice_index sums.sums a)

abbrev pub error_of : LevelSums → ℕ → ℕ → ℕ
error_of sums a b =
    error_at (slice_index sums.counts b - slice_index sums.counts a) (slice_index sums.sums b - slice_index sums.sums a)
    (slice_index sums.squares b - slice_index sums.squares a) (mean_of sums a b)

-- there are levels from a up to b
pub record AreBetween (all : LevelSums) (a b : ℕ) : Type 0 where
  pub order : a < b
  pub few : b ≤ 256
  pub counts : slice_index all.counts a ≤ slice_index all.counts b
  pub sums : slice_index all.sums a ≤ slice_index all.sums b
  pub squares : slice_index all.squares a ≤ slice_index all.squares b
  pub room : HasRoom (slice_index all.counts b - slice_index all.counts a) (slice_index all.sums b - slice_index all.sums a)
      (slice_index all.squares b - slice_index all.squares a) (mean_of all a b)

-- the squared difference of a level to the nearest of some numbers, of which there is one
abbrev pub near : ℕ → List ℕ → ℕ → ℕ
near e [] v = squared_difference e v
near e (f ∷ es) v = min (squared_difference e v) (near f es v)

-- no numbers, of at most so many, show the first levels with a smaller error
abbrev pub AreLeast : (w x : ℕ → ℕ) (d k : ℕ) (f : ℕ → ℕ) → Type 0
AreLeast w x d k f = (e : ℕ) (es : List ℕ) (b : ℕ) → b ≤ d → length es < k → f b ≤ total w x (near e es) b

-- where the last of so many parts of the first levels begins
abbrev pub start_at : (starts : List (List ℕ)) → ℕ → ℕ → ℕ
start_at starts k b = slice_index (slice_index_or starts k []) b

-- the error of the first levels in so many parts, each of which begins where the starts say
abbrev pub error_by : (c : ℕ → ℕ → ℕ) (starts : List (List ℕ)) → ℕ → ℕ → ℕ
error_by c starts zero b = 0
error_by c starts (suc k) zero = 0
error_by c starts (suc k) (suc b) = error_by c starts k (start_at starts k b) + c (start_at starts k b) (suc b)
