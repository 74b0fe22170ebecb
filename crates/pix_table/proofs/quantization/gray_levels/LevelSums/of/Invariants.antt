-- What holds at each turn of the loop over `i` in `of`.
use Rattle.pix_table.specs.quantization.GrayLevels.{values, weights}
use Rattle.pix_table.proofs.lemmas.quantization.LevelLemmas.{AreSummed}
use Rattle.pix_table.proofs.quantization.gray_levels.LevelSums.of.Given as goal

-- the sums up to i are those of the levels
abbrev pub invariant-loop-i : goal.invariant-loop-i
invariant-loop-i l = AreSummed (weights l.levels) (values l.levels) l.counts l.sums l.squares l.i
