-- What holds at each turn of the loop over `j` in `SeenLanes::of`.
use Rattle.std.specs.Prelude.{◌≡◌, ℕ, ◌*◌, ◌<◌, length, map, slice_index_or}
use Rattle.pix_table.specs.matching.Nearest.{numbers}
use Rattle.pix_table.specs.threshold.ColorBlocks.{IsBlock}
use Rattle.pix_table.specs.matching.SeenLanes.{no_views}
use Rattle.pix_table.proofs.rgba.lanes.SeenLanes.of.Given as goal

-- the blocks below the index are made
abbrev pub invariant-loop-j : goal.invariant-loop-j
invariant-loop-j l = record {
  long : length l.blocks ≡ 16;
  black : (k : ℕ) → k < l.j → IsBlock (map numbers l.black) (16 * k) (slice_index_or l.blocks k no_views).black;
  white : (k : ℕ) → k < l.j → IsBlock (map numbers l.white) (16 * k) (slice_index_or l.blocks k no_views).white;
}
