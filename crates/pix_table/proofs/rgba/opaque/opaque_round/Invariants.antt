-- What holds at each turn of the loop over `i` in `opaque_round`.
use Rattle.std.proofs.Common.{map}
use Rattle.pix_table.specs.SeenPixels.{seen_numbers}
use Rattle.pix_table.specs.quantization.SeenShares.{AreShares}
use Rattle.pix_table.specs.quantization.SeenTables.{opaque_settled}
use Rattle.pix_table.specs.declared.rgba.opaque.Share.{Share}
use Rattle.pix_table.proofs.lemmas.quantization.SeenRounds.{AreSettled}
use Rattle.pix_table.proofs.rgba.opaque.opaque_round.Given as goal

abbrev pub nothing : Share
nothing = record { all = 0; opaque = 0 }

-- the first i entries have settled, and the others stand
abbrev pub invariant-loop-i : goal.invariant-loop-i
invariant-loop-i l = record {
  settled : AreSettled AreShares opaque_settled (map seen_numbers l.fn.entries) (map seen_numbers l.entries) l.shares nothing l.i;
}
