-- What holds at each turn of the loop over `i` in `add_colors`.
use Rattle.std.proofs.Common.{map, take}
use Rattle.pix_table.specs.SeenPixels.{seen_numbers}
use Rattle.pix_table.specs.quantization.SeenSums.{AreSeenByValue}
use Rattle.pix_table.proofs.rgba.place.add_colors.Given as goal

-- they are the sums of the first i colors
abbrev pub invariant-loop-i : goal.invariant-loop-i
invariant-loop-i g l = record {
  reds : AreSeenByValue 0 (map seen_numbers (take l.i l.colors)) (map g.S.PartSums.whole l.reds);
  greens : AreSeenByValue 1 (map seen_numbers (take l.i l.colors)) (map g.S.PartSums.whole l.greens);
  blues : AreSeenByValue 2 (map seen_numbers (take l.i l.colors)) (map g.S.PartSums.whole l.blues);
  alphas : AreSeenByValue 3 (map seen_numbers (take l.i l.colors)) (map g.S.PartSums.whole l.alphas);
}
