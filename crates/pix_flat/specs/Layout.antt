-- The version of the calls, and where the proofs' memory has each field of what is passed to C.
use Rattle.std.specs.Prelude.{ℕ, ◌+◌, List, [], ◌∷◌, ◌++◌}
use mathlib.Core.Option.{Option, none, some}
use denote.RattleType.{RattleType}
use denote.Memory.{lone}
use mir.Syntax.{Ty, named}
use prog.Memory.{size, field_of}
use Rattle.pix_flat.specs.contracts.command.PixRegion as region
use Rattle.pix_flat.specs.contracts.command.PixCommand as command
use Rattle.pix_flat.specs.contracts.command.PixCommandRgba16 as command_rgba16
use Rattle.pix_flat.specs.contracts.command.PixCommandGraya8 as command_graya8
use Rattle.pix_flat.specs.contracts.format.PixRgba8 as rgba8
use Rattle.pix_flat.specs.contracts.format.PixRgba16 as rgba16
use Rattle.pix_flat.specs.contracts.format.PixGraya8 as graya8

-- the number for a fact that does not exist
abbrev pub no_fact : ℕ
no_fact = 4294967295

-- the size of a value of a type, in bytes
abbrev pub size_of : RattleType → ℕ
size_of R = size (lone R.mir)

-- where a field begins, and where the count of elements does in a field that is a slice
abbrev pub start : Option (Ty × ℕ) → ℕ
start none = no_fact
start (some field) = field.1

abbrev pub count_start : Option (Ty × ℕ) → ℕ
count_start none = no_fact
count_start (some field) = field.1 + start (field_of field.0 1)

-- the offset of field k of a struct, from its first byte on
abbrev pub offset : RattleType → ℕ → ℕ
offset R k = start (field_of (lone R.mir) k)

-- the offset of the count of elements of the slice that is field k of a struct
abbrev pub count_offset : RattleType → ℕ → ℕ
count_offset R k = count_start (field_of (lone R.mir) k)

-- the size of a region, and the offsets of its left and top coordinates, its width and its height
abbrev pub region_facts : RattleType → List ℕ
region_facts R = size_of R ∷ offset R 0 ∷ offset R 1 ∷ offset R 2 ∷ offset R 3 ∷ []

-- the size of a command, and the offsets of its fields in their order, those of a slice and of its
-- count one after the other
abbrev pub command_facts : RattleType → List ℕ
command_facts R = size_of R ∷ offset R 0 ∷ offset R 1 ∷ offset R 2 ∷ offset R 3 ∷ offset R 4
    ∷ offset R 5 ∷ count_offset R 5 ∷ offset R 6 ∷ count_offset R 6 ∷ offset R 7 ∷ offset R 8 ∷ offset R 9
    ∷ offset R 10 ∷ offset R 11 ∷ offset R 12 ∷ offset R 13 ∷ offset R 14 ∷ []

-- the offsets of the mattes of 8 bits of a command of 16, and of their count
abbrev pub mattes8_facts : RattleType → List ℕ
mattes8_facts R = offset R 15 ∷ count_offset R 15 ∷ []

-- the version; the sizes of the pixels; the region; the command of each format, for any lifetime of
-- its slices
abbrev pub facts : List ℕ
facts = 4 ∷ size_of rgba8.the_row ∷ size_of rgba16.the_row ∷ size_of graya8.the_row ∷ region_facts region.the_row
    ++ command_facts (command.the_row (record { mir = named 0; lft = [] }))
    ++ command_facts (command_rgba16.the_row (record { mir = named 0; lft = [] }))
    ++ mattes8_facts (command_rgba16.the_row (record { mir = named 0; lft = [] }))
    ++ command_facts (command_graya8.the_row (record { mir = named 0; lft = [] }))
