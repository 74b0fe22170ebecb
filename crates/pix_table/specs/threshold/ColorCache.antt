-- Colors that are cached beside a table, each with the index that stands for it. No clause that a
-- user reads cites this file.
use Rattle.std.specs.Prelude.{◌⊎◌, ◌≡◌, ◌≢◌, ℕ, ◌<◌, ◌≤◌, Bool, true, ◌&&◌, ◌||◌, nat_eq, nat_lt, List, [], length, slice_index_or, Some, All, slice_get, slice_set}
use Rattle.pix_table.specs.matching.Nearest.{numbers}
use Rattle.pix_table.specs.quantization.Quantization.{same_color}
use Rattle.pix_table.specs.threshold.PaletteMatch.{IsFirstOf}
use Rattle.pix_table.specs.threshold.Setting.{StandsFor}
use Rattle.pix_table.specs.declared.threshold.color_cache.CacheEntry.{CacheEntry}

-- whether a color that is cached for a number of entries is cached for a count: 0 stands for none,
-- and 65535 for each
abbrev pub serves : ℕ → ℕ → Bool
serves kept count = nat_eq kept 65535 || (nat_lt 0 kept && nat_eq kept count)

-- a place has a color, with an index, for a table of so many entries
pub record IsCached (places : List CacheEntry) (color : List ℕ) (count i : ℕ) : Type 0 where
  pub at : ℕ
  pub kept : CacheEntry
  pub stands : slice_get places at ≡ Some kept
  pub same : numbers kept.clr ≡ color
  pub index : kept.index ≡ i
  pub valid : serves kept.count count ≡ true

-- one place has a color, with an index and a number of entries, and the others are as they were
pub record IsPut (old : List CacheEntry) (color : List ℕ) (i n : ℕ) (new : List CacheEntry) : Type 0 where
  pub at : ℕ
  pub kept : CacheEntry
  pub same : numbers kept.clr ≡ color
  pub index : kept.index ≡ i
  pub count : kept.count ≡ n
  pub put : new ≡ slice_set old at kept

-- a color was cached with its index: for any number of entries where the entry is the color, or for
-- just so many as there are, or not at all
abbrev pub IsCaching : (entries : List (List ℕ)) (color : List ℕ) (index : ℕ) → (old new : List CacheEntry) → Type 0
IsCaching entries color index old new =
    (new ≡ old) ⊎ ((same_color (slice_index_or entries index []) color ≡ true) × IsPut old color index 65535 new)
    ⊎ ((length entries < 65535) × IsPut old color index (length entries) new)

-- a place is right for a table: a color that is cached for any number of entries stands there, first
-- at its index; one that is cached for just so many has the entry of its index stand for it, while
-- there are so many
pub record IsRight (answers : ℕ → List ℕ → Type 0) (entries : List (List ℕ)) (kept : CacheEntry) : Type 0 where
  pub always : kept.count ≡ 65535 → IsFirstOf entries (numbers kept.clr) kept.index
  pub while : 0 < kept.count → kept.count ≢ 65535
      → (kept.count ≤ length entries) × (kept.count ≡ length entries → StandsFor answers entries (numbers kept.clr) (Some kept.index))

-- every place is
abbrev pub AreRight : (ℕ → List ℕ → Type 0) → List (List ℕ) → List CacheEntry → Type 0
AreRight answers entries places = All (IsRight answers entries) places
