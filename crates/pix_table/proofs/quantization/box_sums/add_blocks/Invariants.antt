-- What holds at each turn of the loop over `i` in `add_blocks`.
use Rattle.std.proofs.Common.{◌*◌, All, map, take}
use Rattle.pix_table.specs.matching.Nearest.{numbers}
use Rattle.pix_table.specs.quantization.BestPlaces.{AreBytes, AreByValue}
use Rattle.pix_table.proofs.quantization.box_sums.add_blocks.Given as goal

-- they are the sums of the colors of the first i blocks
abbrev pub invariant-loop-i : goal.invariant-loop-i
invariant-loop-i l = record {
  reds : AreByValue 0 (map numbers (take (l.i * 65535) l.colors)) l.reds;
  greens : AreByValue 1 (map numbers (take (l.i * 65535) l.colors)) l.greens;
  blues : AreByValue 2 (map numbers (take (l.i * 65535) l.colors)) l.blues;
  bytes : All AreBytes (map numbers (take (l.i * 65535) l.colors));
}
