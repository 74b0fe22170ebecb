-- What holds at each turn of the loop over `i` in `add_words`.
use Rattle.std.proofs.Common.{All, map, take}
use Rattle.pix_table.specs.matching.Nearest.{numbers}
use Rattle.pix_table.specs.quantization.BestPlaces.{AreBytes, AreWords}
use Rattle.pix_table.proofs.quantization.box_sums.add_words.Given as goal

-- they are the words of the first i colors
abbrev pub invariant-loop-i : goal.invariant-loop-i
invariant-loop-i l = record {
  reds : AreWords 0 (map numbers (take l.i l.colors)) l.reds;
  greens : AreWords 1 (map numbers (take l.i l.colors)) l.greens;
  blues : AreWords 2 (map numbers (take l.i l.colors)) l.blues;
  bytes : All AreBytes (map numbers (take l.i l.colors));
}
