-- Boxes of colors that are joined again, where that raises the squared error least: of all pairs of
-- boxes, not only of those that one cut made (J. Ward, Hierarchical grouping to optimize an objective
-- function, 1963).
use Rattle.std.specs.Prelude.{ℕ, ◌+◌, ◌-◌, ◌<◌, ◌≤◌, List, [], ◌∷◌, ◌++◌, length, slice_index_or}
use Rattle.pix_table.specs.quantization.Places.{IsBefore}

-- by how much the squared error rises where two boxes become one
abbrev pub cost_by : (weigh : List (List ℕ) → ℕ) (p q : List (List ℕ)) → ℕ
cost_by weigh p q = weigh p + weigh q - weigh (p ++ q)

-- the same for two of a list of boxes
abbrev pub cost_at : (weigh : List (List ℕ) → ℕ) (boxes : List (List (List ℕ))) (i j : ℕ) → ℕ
cost_at weigh boxes i j = cost_by weigh (slice_index_or boxes i []) (slice_index_or boxes j [])

-- of a list of boxes the two that are joined next: those that cost least, the first of equals
pub record IsNextPairBy (weigh : List (List ℕ) → ℕ) (boxes : List (List (List ℕ))) (i j : ℕ) : Type 0 where
  pub order : i < j
  pub within : j < length boxes
  pub least : (k l : ℕ) → k < l → l < length boxes → cost_at weigh boxes i j ≤ cost_at weigh boxes k l
  pub first : (k l : ℕ) → k < l → l < length boxes → IsBefore k l i j → cost_at weigh boxes i j < cost_at weigh boxes k l

-- a list of boxes, of which pairs may have become one: that stands where the first of the two stood
pub data AreJoinedBy (weigh : List (List ℕ) → ℕ) : (boxes joined : List (List (List ℕ))) → Type 0 where
  none : (boxes : List (List (List ℕ))) → AreJoinedBy weigh boxes boxes
  join : (boxes before between after : List (List (List ℕ))) (p q : List (List ℕ))
      → AreJoinedBy weigh boxes (before ++ p ∷ (between ++ q ∷ after))
      → IsNextPairBy weigh (before ++ p ∷ (between ++ q ∷ after)) (length before) (length before + 1 + length between)
      → AreJoinedBy weigh boxes (before ++ (p ++ q) ∷ (between ++ after))
