-- What holds at each turn of the loop over `i` in `round`.
use Rattle.std.proofs.Common.{◌≡◌, false, map}
use Rattle.pix_table.specs.matching.Nearest.{numbers}
use Rattle.pix_table.specs.declared.quantization.box_sums.Sums.{Sums}
use Rattle.pix_table.proofs.lemmas.quantization.Rounds.{AreMoved}
use Rattle.pix_table.proofs.quantization.refine.round.Given as goal

abbrev pub nothing : Sums
nothing = record { count = 0; red = 0; green = 0; blue = 0 }

-- the first i entries have moved, and the others stand
abbrev pub invariant-loop-i : goal.invariant-loop-i
invariant-loop-i l = record {
  moved : AreMoved (map numbers l.fn.entries) (map numbers l.entries) l.sums nothing l.i;
  same : l.is_moved ≡ false → map numbers l.entries ≡ map numbers l.fn.entries;
}
