-- Tables that are made of pixels.
use Rattle.std.proofs.Common.{ℕ, List, Option, Some, None, MatchOption, map}
use Rattle.pix_table.proofs.lemmas.quantization.TableRounds.{unrefined}
use Rattle.pix_palette.specs.Palette.{numbers}
use Rattle.pix_palette.specs.ColorTable.{IsMadeOf, IsRefinedMadeOf, entries_of}
use Rattle.pix_palette.specs.declared.palette.slots.ColorTable.{ColorTable}

-- no rounds leave the table that is made
pub unrefined_made : (none : Type 0) (limit : ℕ) (pixels : List (List ℕ)) (answer : Option ColorTable)
    → MatchOption answer none (IsRefinedMadeOf 0 limit pixels) → MatchOption answer none (IsMadeOf limit pixels)
unrefined_made none limit pixels None h = h
unrefined_made none limit pixels (Some table) h =
    record { room = h.room; exact = h.exact; colors = unrefined limit pixels (map numbers (entries_of table)) h.colors }
