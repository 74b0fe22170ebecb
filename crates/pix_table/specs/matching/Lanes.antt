-- The entries of a table in lanes. No clause of a public call cites this file.
use Rattle.std.specs.Prelude.{◌≡◌, ℕ, ◌+◌, ◌*◌, ◌/◌, ◌%◌, ◌<◌, ◌≤◌, List, [], slice_index, slice_index_or}
use Rattle.pix_table.specs.declared.threshold.color_block.ColorBlock.{ColorBlock}

-- no colors
abbrev pub no_block : ColorBlock
no_block = record { red = []; green = []; blue = [] }

-- how far a color is from the one in a lane: lane p is number p % 16 of block p / 16
abbrev pub lane_distance : {B : Type 0} (apart : B → ℕ → ℕ) (none : B) → List B → ℕ → ℕ
lane_distance apart none blocks p = apart (slice_index_or blocks (p / 16) none) (p % 16)

-- of the first n lanes the one at the least distance, the first of equals
pub record IsNearestLane (far : ℕ → ℕ) (n p : ℕ) : Type 0 where
  pub stands : p < n
  pub least : (q : ℕ) → q < n → far p ≤ far q
  pub first : (q : ℕ) → q < p → far p < far q

-- the least distance in lane i of the first j blocks, up to 65535, and the first block that has it
pub record IsLeastIn (d : ℕ → ℕ) (i j least at : ℕ) : Type 0 where
  pub bound : least ≤ 65535
  pub few : at < 16
  pub below : (k : ℕ) → k < j → least ≤ d (16 * k + i)
  pub first : (k : ℕ) → k < at → least < d (16 * k + i)
  pub is : least < 65535 → (at < j) × (least ≡ d (16 * at + i))

-- the least key in lane i of the first j blocks: a distance, 256 times, and its lane
pub record IsLeastKeyIn (d : ℕ → ℕ) (i j key : ℕ) : Type 0 where
  pub at : ℕ
  pub stands : at < j
  pub is : key ≡ d (16 * at + i) * 256 + (16 * at + i)
  pub below : (k : ℕ) → k < j → key ≤ d (16 * k + i) * 256 + (16 * k + i)

-- the least of the first n of some keys
pub record IsLeastOf (keys : List ℕ) (n least : ℕ) : Type 0 where
  pub at : ℕ
  pub stands : at < n
  pub is : least ≡ slice_index keys at
  pub below : (i : ℕ) → i < n → least ≤ slice_index keys i

-- the key of a lane: the greater of two is that of the farther lane, or of the later one of equals
abbrev pub key_of : (far : ℕ → ℕ) → ℕ → ℕ
key_of far p = far p * 256 + p

-- a key of the first n lanes
pub record IsLaneKey (far : ℕ → ℕ) (n key : ℕ) : Type 0 where
  pub lane : ℕ
  pub stands : lane < n
  pub is : key ≡ key_of far lane

-- the least key of the lanes of block j
pub record IsBlockKey (far : ℕ → ℕ) (j key : ℕ) : Type 0 where
  pub at : ℕ
  pub stands : at < 16
  pub is : key ≡ key_of far (16 * j + at)
  pub below : (i : ℕ) → i < 16 → key ≤ key_of far (16 * j + i)
