-- What holds at each turn of the loop over `i` in `ColorBlock::new`.
use Rattle.std.proofs.Common.{◌≡◌, ◌+◌, ◌<◌, ℕ, length, map}
use Rattle.pix_table.specs.threshold.ColorBlocks.{channels_at, channels_in}
use Rattle.pix_table.proofs.threshold.color_block.ColorBlock.new.Given as goal

-- the first i colors are there
abbrev pub invariant-loop-i : goal.invariant-loop-i
invariant-loop-i g l = record {
  red : length l.block.red ≡ 16;
  green : length l.block.green ≡ 16;
  blue : length l.block.blue ≡ 16;
  each : (i : ℕ) → i < l.i → channels_in l.block i ≡ channels_at (map g.C.TableColor.channels l.colors) (l.start + i);
}
