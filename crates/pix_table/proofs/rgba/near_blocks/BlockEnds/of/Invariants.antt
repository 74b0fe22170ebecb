-- What holds at each turn of the loop over `j` in `BlockEnds::of`.
use Rattle.std.proofs.Common.{◌≡◌, ℕ, ◌<◌, get_or, length}
use Rattle.pix_table.specs.matching.Lanes.{no_block}
use Rattle.pix_table.specs.matching.SeenLanes.{no_views}
use Rattle.pix_table.proofs.rgba.near_blocks.BlockEnds.of.Given as goal

-- the first j are there, over black and over white
abbrev pub invariant-loop-j : goal.invariant-loop-j
invariant-loop-j l = record {
  blacks : length l.blacks ≡ 16;
  whites : length l.whites ≡ 16;
  black : (k : ℕ) → k < l.j → get_or l.blacks k no_block ≡ (get_or l.blocks k no_views).black;
  white : (k : ℕ) → k < l.j → get_or l.whites k no_block ≡ (get_or l.blocks k no_views).white;
}
