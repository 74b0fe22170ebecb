-- What holds at each turn of the loop in `next_near`.
use Rattle.std.proofs.Common.{◌<◌, ◌≤◌, ◌-◌, ℕ, get_or, length}
use Rattle.pix_table.specs.threshold.ColorBlocks.{IsFar}
use Rattle.pix_table.specs.matching.Nearest.{numbers}
use Rattle.pix_table.specs.declared.threshold.color_block.ColorBlock.{ColorBlock}
use Rattle.pix_table.proofs.threshold.in_blocks.next_near.Given as goal

-- the blocks from `start` on and before k have no near color
abbrev pub invariant-loop-k : goal.invariant-loop-k
invariant-loop-k l = record {
  order : l.start ≤ l.k;
  within : l.k ≤ length l.blocks;
  far : (k : ℕ) (d : ColorBlock) → l.start ≤ k → k < l.k → IsFar (get_or l.blocks k d) (numbers l.clr) (numbers l.least);
}

abbrev pub decreases-loop-k : goal.decreases-loop-k
decreases-loop-k l = length l.blocks - l.k
