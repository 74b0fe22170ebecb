-- The places of a byte.
use Rattle.std.proofs.Common.{◌≡◌, ℕ, zero, suc, ◌+◌, ◌*◌, ◌/◌, ◌%◌, ◌<◌, ◌≤◌, arith}
use Rattle.pix_table.specs.declared.packing.row.IndexDepth.{IndexDepth}
use Rattle.pix_table.specs.packing.Packing.{place, places, row_size}
use Rattle.pix_table.specs.declared.packing.row.IndexDepth.TheVariants.{One, Two, Four, Eight}

pub eight_places : (x : ℕ → ℕ) (byte : ℕ)
    → byte ≡ x 0 % 2 * 128 + x 1 % 2 * 64 + x 2 % 2 * 32 + x 3 % 2 * 16 + x 4 % 2 * 8 + x 5 % 2 * 4 + x 6 % 2 * 2 + x 7 % 2
    → (t : ℕ) → t < 8 → place One byte t ≡ x t % 2
eight_places x byte e zero below = omega arith
eight_places x byte e (suc zero) below = omega arith
eight_places x byte e (suc (suc zero)) below = omega arith
eight_places x byte e (suc (suc (suc zero))) below = omega arith
eight_places x byte e (suc (suc (suc (suc zero)))) below = omega arith
eight_places x byte e (suc (suc (suc (suc (suc zero))))) below = omega arith
eight_places x byte e (suc (suc (suc (suc (suc (suc zero)))))) below = omega arith
eight_places x byte e (suc (suc (suc (suc (suc (suc (suc zero))))))) below = omega arith
eight_places x byte e (suc (suc (suc (suc (suc (suc (suc (suc t)))))))) below = absurd (omega arith)

pub four_places : (x : ℕ → ℕ) (byte : ℕ) → byte ≡ x 0 % 4 * 64 + x 1 % 4 * 16 + x 2 % 4 * 4 + x 3 % 4
    → (t : ℕ) → t < 4 → place Two byte t ≡ x t % 4
four_places x byte e zero below = omega arith
four_places x byte e (suc zero) below = omega arith
four_places x byte e (suc (suc zero)) below = omega arith
four_places x byte e (suc (suc (suc zero))) below = omega arith
four_places x byte e (suc (suc (suc (suc t)))) below = absurd (omega arith)

pub two_places : (x : ℕ → ℕ) (byte : ℕ) → byte ≡ x 0 % 16 * 16 + x 1 % 16 → (t : ℕ) → t < 2 → place Four byte t ≡ x t % 16
two_places x byte e zero below = omega arith
two_places x byte e (suc zero) below = omega arith
two_places x byte e (suc (suc t)) below = absurd (omega arith)

-- the only place of a byte
pub one_place : (x : ℕ → ℕ) (byte : ℕ) → byte ≡ x 0 → byte < 256 → (t : ℕ) → t < 1 → place Eight byte t ≡ x t
one_place x byte e small zero below = omega arith
one_place x byte e small (suc t) below = absurd (omega arith)

-- the first place of a byte of the row is within the row
pub first_within : (depth : IndexDepth) (count j : ℕ) → j < row_size depth count → j * places depth ≤ count
first_within One count j below = omega arith
first_within Two count j below = omega arith
first_within Four count j below = omega arith
first_within Eight count j below = omega arith

-- the byte of an index is one of the row
pub byte_within : (depth : IndexDepth) (count i : ℕ) → i < count → i / places depth < row_size depth count
byte_within One count i below = omega arith
byte_within Two count i below = omega arith
byte_within Four count i below = omega arith
byte_within Eight count i below = omega arith

-- a byte has the place of an index
pub place_within : (depth : IndexDepth) (i : ℕ) → i % places depth < places depth
place_within One i = omega arith
place_within Two i = omega arith
place_within Four i = omega arith
place_within Eight i = omega arith

pub some_places : (depth : IndexDepth) → 0 < places depth
some_places One = omega arith
some_places Two = omega arith
some_places Four = omega arith
some_places Eight = omega arith

-- an index stands at its place of its byte
pub place_of_index : (depth : IndexDepth) (i : ℕ) → i / places depth * places depth + i % places depth ≡ i
place_of_index One i = omega arith
place_of_index Two i = omega arith
place_of_index Four i = omega arith
place_of_index Eight i = omega arith
