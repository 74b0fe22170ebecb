-- Setting a color in a table: the answer is an entry within a threshold, or the color is added.
use Rattle.std.specs.Prelude.{⊤, ◌⊎◌, ◌≡◌, ℕ, true, false, Bool, if◌then◌else◌, nat_lt, List, [], ◌∷◌, ◌++◌, map, length, Option, Some, None}
use Rattle.pix_table.specs.threshold.PaletteMatch.{difference_to, is_within, IsMatch}

-- whether a difference is within the threshold for a number of entries; a difference of 0 in every
-- channel is within any
abbrev pub Fits : (ℕ → List ℕ → Type 0) → ℕ → List ℕ → Bool → Type 0
Fits answers count difference fits =
    ((difference ≡ 0 ∷ 0 ∷ 0 ∷ []) × (fits ≡ true)) ⊎ ((threshold : List ℕ) × answers count threshold × (is_within difference threshold ≡ fits))

-- the entry m is the match of a color, and whether its difference is within the threshold
pub record Matches (answers : ℕ → List ℕ → Type 0) (entries : List (List ℕ)) (color : List ℕ) (m : ℕ) (fits : Bool) : Type 0 where
  pub match : IsMatch entries color m
  pub within : Fits answers (length entries) (difference_to entries color m) fits

-- the entry that stands for a color: its match, if there is one within the threshold
abbrev pub StandsFor : (ℕ → List ℕ → Type 0) → List (List ℕ) → List ℕ → Option ℕ → Type 0
StandsFor answers entries color (Some m) = Matches answers entries color m true
StandsFor answers [] color None = ⊤
StandsFor answers (entry ∷ entries) color None = (m : ℕ) × Matches answers (entry ∷ entries) color m false

-- the answer: the entry that stands for the color, or else the next index if it is below the limit
abbrev pub set_answer : {C : Type 0} → ℕ → List C → Option ℕ → Option ℕ
set_answer limit colors (Some m) = Some m
set_answer limit colors None = if nat_lt (length colors) limit then Some (length colors) else None

-- the colors afterwards: as they were, or with the color appended where no entry stands for it and
-- there is room
abbrev pub set_colors : {C : Type 0} → ℕ → List C → C → Option ℕ → List C
set_colors limit colors color (Some m) = colors
set_colors limit colors color None = if nat_lt (length colors) limit then colors ++ color ∷ [] else colors

-- setting a color; `numbers` reads one
pub record IsSet {C : Type 0} (numbers : C → List ℕ) (answers : ℕ → List ℕ → Type 0) (limit : ℕ) (old : List C) (color : C) (answer : Option ℕ) (new : List C) : Type 0 where
  pub standing : Option ℕ
  pub found : StandsFor answers (map numbers old) (numbers color) standing
  pub same_answer : answer ≡ set_answer limit old standing
  pub same_colors : new ≡ set_colors limit old color standing

-- the threshold is the same for each number of entries
abbrev pub Always : List ℕ → ℕ → List ℕ → Type 0
Always threshold count answered = answered ≡ threshold
