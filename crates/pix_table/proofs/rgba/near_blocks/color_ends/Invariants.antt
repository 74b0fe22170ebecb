-- What holds at each turn of the loop over `j` in `color_ends`.
use Rattle.std.proofs.Common.{◌≡◌, ℕ, ◌<◌, get_or, length}
use Rattle.pix_table.specs.threshold.ColorBlocks.{Lies, channels_in}
use Rattle.pix_table.specs.matching.Lanes.{no_block}
use Rattle.pix_table.specs.matching.Nearest.{numbers}
use Rattle.pix_table.specs.declared.color.Color.{Color}
use Rattle.pix_table.proofs.rgba.near_blocks.color_ends.Given as goal

-- the first j are there
abbrev pub invariant-loop-j : goal.invariant-loop-j
invariant-loop-j l = record {
  low : length l.least ≡ 16;
  high : length l.greatest ≡ 16;
  ends : (k : ℕ) (d : Color) → k < l.j → (i : ℕ) → i < 16
      → Lies (numbers (get_or l.least k d)) (numbers (get_or l.greatest k d)) (channels_in (get_or l.blocks k no_block) i);
}
