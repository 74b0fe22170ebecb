-- A copy of the entries of a table, for lanes. No clause of a public call cites this file.
use Rattle.std.specs.Prelude.{◌≡◌, ℕ, ◌+◌, ◌*◌, ◌/◌, ◌<◌, ◌≤◌, List, length, slice_index, slice_index_or}
use Rattle.pix_table.specs.threshold.ColorBlocks.{IsBlock, channels_at}
use Rattle.pix_table.specs.matching.Lanes.{no_block}
use Rattle.pix_table.specs.declared.matching.entry_lanes.EntryLanes.{EntryLanes}

-- among the first n of some colors, each with an index, is the color of an entry, with an index
-- that is no greater than its own
pub record HasLane (entries colors : List (List ℕ)) (indices : List ℕ) (n k : ℕ) : Type 0 where
  pub at : ℕ
  pub below : at < n
  pub before : slice_index indices at ≤ k
  pub same : channels_at colors at ≡ channels_at entries k

-- the first n of some colors are entries, in the order of their indices, and each of the first m
-- entries, or an equal one before it, is among them
pub record AreChosen (entries : List (List ℕ)) (m : ℕ) (colors : List (List ℕ)) (indices : List ℕ) (n : ℕ) : Type 0 where
  pub stands : (p : ℕ) → p < n → slice_index indices p < length entries
  pub same : (p : ℕ) → p < n → channels_at colors p ≡ channels_at entries (slice_index indices p)
  pub ordered : (p q : ℕ) → p ≤ q → q < n → slice_index indices p ≤ slice_index indices q
  pub whole : (k : ℕ) → k < m → HasLane entries colors indices n k

-- how many blocks have so many lanes
abbrev pub blocks_for : ℕ → ℕ
blocks_for n = (n + 15) / 16

-- the entries of a table are in lanes: those that are chosen, also with the last of them in the
-- lanes that are left in its block
pub record AreLanes (entries : List (List ℕ)) (lanes : EntryLanes) : Type 0 where
  pub colors : List (List ℕ)
  pub blocks : (k : ℕ) → k < blocks_for lanes.len → IsBlock colors (16 * k) (slice_index_or lanes.blocks k no_block)
  pub chosen : AreChosen entries (length entries) colors lanes.indices lanes.len
  pub filled : AreChosen entries (length entries) colors lanes.indices (16 * blocks_for lanes.len)
