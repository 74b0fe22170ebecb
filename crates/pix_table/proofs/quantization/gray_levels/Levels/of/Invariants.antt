-- What holds at each turn of the loop over `i` in `of`.
use Rattle.pix_table.proofs.lemmas.quantization.LevelLemmas.{AreListed}
use Rattle.pix_table.proofs.quantization.gray_levels.Levels.of.Given as goal

-- the levels above 255 - i are listed
abbrev pub invariant-loop-i : goal.invariant-loop-i
invariant-loop-i l = AreListed l.every l.levels l.i
