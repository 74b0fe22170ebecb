-- Rounds by which a table fits a list of colors better (S. Lloyd, Least squares quantization in PCM,
-- 1982).
use Rattle.std.specs.Prelude.{◌⊎◌, ◌≡◌, ℕ, zero, suc, ◌<◌, ◌≤◌, List, [], ◌∷◌, length, slice_index_or, All, IsPermutation}
use Rattle.std.specs.List.{flat_map}
use Rattle.pix_table.specs.matching.Nearest.{distance, IsNearestBy}
use Rattle.pix_table.specs.quantization.Cut.{mean, IsCutTable}
use Rattle.pix_table.specs.quantization.SquaredErrors.{squared_error, squared_error_by}
use Rattle.pix_table.specs.quantization.Grays.{IsLeastOr}
use Rattle.pix_table.specs.quantization.Quantization.{distinct}

-- the colors of each entry, in any order: those to which it is the nearest, the first of equals
pub record AreGroupsBy (apart : List ℕ → List ℕ → ℕ) (entries colors : List (List ℕ)) (groups : List (List (List ℕ))) : Type 0 where
  pub many : length groups ≡ length entries
  pub all : IsPermutation colors (flat_map (λ group. group) groups)
  pub nearest : (i : ℕ) → i < length entries → All (λ color. IsNearestBy apart entries color i) (slice_index_or groups i [])

-- a round: each entry settles among its colors
pub record IsRoundBy (apart : List ℕ → List ℕ → ℕ) (settle : List ℕ → List (List ℕ) → List ℕ) (colors old new : List (List ℕ)) : Type 0 where
  pub groups : List (List (List ℕ))
  pub are : AreGroupsBy apart old colors groups
  pub many : length new ≡ length old
  pub each : (i : ℕ) → i < length old → slice_index_or new i [] ≡ settle (slice_index_or old i []) (slice_index_or groups i [])

-- so many rounds, one after the other
abbrev pub AreRoundsBy : (apart : List ℕ → List ℕ → ℕ) (settle : List ℕ → List (List ℕ) → List ℕ) → ℕ → (colors old new : List (List ℕ)) → Type 0
AreRoundsBy apart settle zero colors old new = new ≡ old
AreRoundsBy apart settle (suc n) colors old new =
    (next : List (List ℕ)) × IsRoundBy apart settle colors old next × AreRoundsBy apart settle n colors next new

-- no round makes the squared error of some colors greater, whatever entries it begins with
abbrev pub NoRoundIsWorseBy : (apart : List ℕ → List ℕ → ℕ) (settle : List ℕ → List (List ℕ) → List ℕ) → (colors : List (List ℕ)) → Type 0
NoRoundIsWorseBy apart settle colors =
    (old new : List (List ℕ)) → IsRoundBy apart settle colors old new → squared_error_by apart new colors ≤ squared_error_by apart old colors

-- an entry after a round: the mean of its colors, or itself where it has none
abbrev pub refined : List ℕ → List (List ℕ) → List ℕ
refined entry [] = entry
refined entry (color ∷ colors) = mean (color ∷ colors)

-- all of these by the sum of the squared differences, where each entry goes to the mean of its colors
abbrev pub AreGroups : (entries colors : List (List ℕ)) (groups : List (List (List ℕ))) → Type 0
AreGroups entries colors groups = AreGroupsBy distance entries colors groups

abbrev pub IsRound : (colors old new : List (List ℕ)) → Type 0
IsRound colors old new = IsRoundBy distance refined colors old new

abbrev pub AreRounds : ℕ → (colors old new : List (List ℕ)) → Type 0
AreRounds n colors old new = AreRoundsBy distance refined n colors old new

-- the table of the cuts after so many rounds, none of which makes the squared error greater
abbrev pub IsRefinedCut : (rounds room : ℕ) → (colors table : List (List ℕ)) → Type 0
IsRefinedCut rounds room colors table =
    (first : List (List ℕ)) × IsCutTable room colors first × AreRounds rounds colors first table
    × (squared_error table colors ≤ squared_error first colors) × NoRoundIsWorseBy distance refined colors

-- the table of a list of colors after so many rounds, of at most so many entries: its distinct colors,
-- where there is room for them; else the least, where all are grays; and else that of the cuts, refined
abbrev pub IsQuantizedRefined : (rounds room : ℕ) → (colors table : List (List ℕ)) → Type 0
IsQuantizedRefined rounds room colors table =
    ((length (distinct colors) ≤ room) × (table ≡ distinct colors))
    ⊎ ((room < length (distinct colors)) × IsLeastOr (IsRefinedCut rounds room colors table) room colors table)
