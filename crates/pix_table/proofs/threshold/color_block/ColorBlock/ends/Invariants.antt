-- What holds at each turn of the loop over `i` in `ColorBlock::ends`.
use Rattle.std.proofs.Common.{◌<◌, ℕ}
use Rattle.pix_table.specs.threshold.ColorBlocks.{Lies, channels_in}
use Rattle.pix_table.specs.matching.Nearest.{numbers}
use Rattle.pix_table.proofs.threshold.color_block.ColorBlock.ends.Given as goal

-- the first i colors lie between the ends
abbrev pub invariant-loop-i : goal.invariant-loop-i
invariant-loop-i l = (j : ℕ) → j < l.i → Lies (numbers l.least) (numbers l.greatest) (channels_in l.self j)
