-- Tables of grays with the least squared error.
use Rattle.std.specs.Prelude.{◌⊎◌, ◌≡◌, ℕ, ◌<◌, ◌≤◌, List, length, slice_index, All}
use Rattle.pix_table.specs.quantization.SquaredErrors.{squared_error}

-- whether a color is a gray: its red, green and blue are the same
abbrev pub IsGray : List ℕ → Type 0
IsGray color = (slice_index color 1 ≡ slice_index color 0) × (slice_index color 2 ≡ slice_index color 0)

-- whether all of some colors are grays
abbrev pub AreGrays : List (List ℕ) → Type 0
AreGrays colors = All IsGray colors

-- of all tables of at most so many entries, none has a smaller squared error of some colors
pub record IsLeastTable (room : ℕ) (colors table : List (List ℕ)) : Type 0 where
  pub some : 0 < length table
  pub many : length table ≤ room
  pub least : (other : List (List ℕ)) → 0 < length other → length other ≤ room → squared_error table colors ≤ squared_error other colors

-- a table where there is no room for all colors: of grays it is the least, and else another statement
-- says what it is
abbrev pub IsLeastOr : (other : Type 0) (room : ℕ) (colors table : List (List ℕ)) → Type 0
IsLeastOr other room colors table = (AreGrays colors × IsLeastTable room colors table) ⊎ ((AreGrays colors → ⊥) × other)
