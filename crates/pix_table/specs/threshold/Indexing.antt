-- Indexing pixels: the color of each is set in a table, one after the other, and the answer is its
-- index.
use Rattle.std.specs.Prelude.{◌≡◌, ℕ, ◌<◌, ◌≤◌, List, [], ◌∷◌, ◌++◌, Option, Some, None, IfSome}

-- how a color is set: a relation of the colors before, the color, the answer and the colors
-- afterwards
abbrev pub Setting : Type 0 → Type 1
Setting C = List C → C → Option ℕ → List C → Type 0

-- setting a color of these numbers where no index may be above the greatest: its index, or None
-- where the answer is None or an index above the greatest
abbrev pub IsSetUpTo : {C : Type 0} → (C → List ℕ) → Setting C → ℕ → List C → List ℕ → Option ℕ → List C → Type 0
IsSetUpTo {C = C} numbers set greatest old pixel (Some i) new = (color : C) × (numbers color ≡ pixel) × set old color (Some i) new × (i ≤ greatest)
IsSetUpTo {C = C} numbers set greatest old pixel None new =
    (color : C) × (answer : Option ℕ) × (numbers color ≡ pixel) × set old color answer new × IfSome answer (λ i. greatest < i)

-- setting the colors of these numbers, one after the other, answers these indices
abbrev pub AreSet : {C : Type 0} → (C → List ℕ) → Setting C → ℕ → List C → List (List ℕ) → List ℕ → List C → Type 0
AreSet numbers set greatest old [] [] new = new ≡ old
AreSet {C = C} numbers set greatest old (pixel ∷ pixels) (i ∷ indices) new =
    (next : List C) × IsSetUpTo numbers set greatest old pixel (Some i) next × AreSet numbers set greatest next pixels indices new
AreSet numbers set greatest old [] (i ∷ indices) new = ⊥
AreSet numbers set greatest old (pixel ∷ pixels) [] new = ⊥

-- setting them stops at one that has no index, which is the last that is set
pub record IsStopped {C : Type 0} (numbers : C → List ℕ) (set : Setting C) (greatest : ℕ) (old : List C) (pixels : List (List ℕ)) (new : List C) : Type 0 where
  pub before : List (List ℕ)
  pub pixel : List ℕ
  pub after : List (List ℕ)
  pub parts : pixels ≡ before ++ pixel ∷ after
  pub indices : List ℕ
  pub between : List C
  pub set_before : AreSet numbers set greatest old before indices between
  pub last : IsSetUpTo numbers set greatest between pixel None new

-- indexing pixels: the index of each, or None where it stops at one
abbrev pub AreIndexed : {C : Type 0} → (C → List ℕ) → Setting C → ℕ → List C → List (List ℕ) → Option (List ℕ) → List C → Type 0
AreIndexed numbers set greatest old pixels (Some indices) new = AreSet numbers set greatest old pixels indices new
AreIndexed numbers set greatest old pixels None new = IsStopped numbers set greatest old pixels new
