-- What holds at each turn of the loop over `i` in `seen_round`.
use Rattle.std.proofs.Common.{◌≡◌, false, map}
use Rattle.pix_table.specs.SeenPixels.{seen_numbers}
use Rattle.pix_table.specs.quantization.SeenGroups.{AreGroupSums}
use Rattle.pix_table.specs.quantization.SeenTables.{seen_settled}
use Rattle.pix_table.specs.declared.rgba.sums.SeenSums.{SeenSums}
use Rattle.pix_table.proofs.lemmas.quantization.SeenRounds.{AreSettled}
use Rattle.pix_table.proofs.rgba.refine.seen_round.Given as goal

abbrev pub nothing : SeenSums
nothing = record { count = 0; red = 0; green = 0; blue = 0; alpha = 0 }

-- the first i entries have settled, and the others stand
abbrev pub invariant-loop-i : goal.invariant-loop-i
invariant-loop-i l = record {
  settled : AreSettled AreGroupSums seen_settled (map seen_numbers l.fn.entries) (map seen_numbers l.entries) l.sums nothing l.i;
  same : l.is_moved ≡ false → map seen_numbers l.entries ≡ map seen_numbers l.fn.entries;
}
