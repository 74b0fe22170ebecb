-- Boxes that are joined, as the program keeps them: the sums of each, and with which later one it is joined for least. No clause of a public
-- call cites this file.
use Rattle.std.specs.Prelude.{◌⊎◌, ◌≡◌, ℕ, ◌+◌, ◌-◌, ◌<◌, ◌≤◌, ◌++◌, ◌∷◌, List, [], cond, drop, length, nat_lt, slice_index_or, sum_by, take}
use Rattle.pix_table.specs.quantization.Joins.{cost_at}
use Rattle.pix_table.specs.declared.quantization.joins.Pair.{Pair}

-- of each of some boxes what is kept of it, in the first so many places
pub record AreGroupsOf {G : Type 0} (is_group : List (List ℕ) → G → Type 0) (boxes : List (List (List ℕ))) (groups : List G) (count : ℕ)
    : Type 0 where
  pub many : length boxes ≡ count
  pub within : count ≤ length groups
  pub each : (k : ℕ) (d : G) → k < count → is_group (slice_index_or boxes k []) (slice_index_or groups k d)

-- how many colors some boxes have
abbrev pub all_colors : List (List (List ℕ)) → ℕ
all_colors boxes = sum_by (λ box. length box) boxes

-- the least number of a row behind a place and before another, the first of equals, and where it stands
pub record IsLeastAfter (row : ℕ → ℕ) (from to cost with : ℕ) : Type 0 where
  pub after : from < with
  pub before : with < to
  pub is : row with ≡ cost
  pub least : (k : ℕ) → from < k → k < to → cost ≤ row k
  pub first : (k : ℕ) → from < k → k < with → cost < row k

-- of the pairs of a box and a later one that which costs least, the first of equals
abbrev pub IsPairOf : (weigh : List (List ℕ) → ℕ) (boxes : List (List (List ℕ))) (k : ℕ) (pair : Pair) → Type 0
IsPairOf weigh boxes k pair = IsLeastAfter (cost_at weigh boxes k) k (length boxes) pair.cost pair.with

-- the better of a pair and one that costs so much with a later box, the first of equals
abbrev pub IsBetter : (best : Pair) (cost with : ℕ) (better : Pair) → Type 0
IsBetter best cost with better = ((best.cost ≤ cost) × (better ≡ best)) ⊎ ((cost < best.cost) × (better.cost ≡ cost) × (better.with ≡ with))

-- the better of a pair and one that costs so much with a box, of equals that with the earlier box
abbrev pub IsEarlier : (best : Pair) (cost with : ℕ) (better : Pair) → Type 0
IsEarlier best cost with better =
    (((best.cost < cost) ⊎ ((best.cost ≡ cost) × (best.with ≤ with))) × (better ≡ best))
    ⊎ (((cost < best.cost) ⊎ ((cost ≡ best.cost) × (with < best.with))) × (better.cost ≡ cost) × (better.with ≡ with))

-- these pairs of all boxes but the last
pub record ArePairs (weigh : List (List ℕ) → ℕ) (boxes : List (List (List ℕ))) (pairs : List Pair) : Type 0 where
  pub each : (k : ℕ) (d : Pair) → k + 1 < length boxes → IsPairOf weigh boxes k (slice_index_or pairs k d)

-- where a place was before one was taken away
abbrev pub skip : (gone k : ℕ) → ℕ
skip gone k = cond (nat_lt k gone) k (k + 1)

-- the pairs of the boxes before one was taken away, without the pair of that one
pub record ArePairsWithout (weigh : List (List ℕ) → ℕ) (boxes : List (List (List ℕ))) (gone : ℕ) (pairs : List Pair) : Type 0 where
  pub each : (k : ℕ) (d : Pair) → skip gone k + 1 < length boxes → IsPairOf weigh boxes (skip gone k) (slice_index_or pairs k d)

-- the boxes after two of them became one, that stands where the first stood
abbrev pub join_at : (boxes : List (List (List ℕ))) (i j : ℕ) → List (List (List ℕ))
join_at boxes i j =
    take i boxes ++ (slice_index_or boxes i [] ++ slice_index_or boxes j []) ∷ (take (j - (i + 1)) (drop (i + 1) boxes) ++ drop (j + 1) boxes)

-- two boxes became one, that stands where the first stood
pub record IsJoinOf (old new : List (List (List ℕ))) (i j : ℕ) : Type 0 where
  pub order : i < j
  pub within : j < length old
  pub many : length new + 1 ≡ length old
  pub both : slice_index_or new i [] ≡ slice_index_or old i [] ++ slice_index_or old j []
  pub others : (k : ℕ) → (k ≡ i → ⊥) → slice_index_or new k [] ≡ slice_index_or old (skip j k) []
