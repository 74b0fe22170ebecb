-- What holds at each turn of the loop over `i` in `ColorBlock::has_near`.
use Rattle.std.proofs.Common.{◌≡◌, ◌<◌, ℕ, false}
use Rattle.pix_table.specs.threshold.ColorBlocks.{channels_in}
use Rattle.pix_table.specs.matching.Nearest.{numbers}
use Rattle.pix_table.specs.threshold.PaletteMatch.{color_difference, is_within}
use Rattle.pix_table.proofs.threshold.color_block.ColorBlock.has_near.Given as goal

-- none of the first i colors is near, unless one was found
abbrev pub invariant-loop-i : goal.invariant-loop-i
invariant-loop-i l = l.any ≡ false → (i : ℕ) → i < l.i → is_within (color_difference (channels_in l.self i) (numbers l.clr)) (numbers l.least) ≡ false
