-- What holds at each turn of the loop over `k` in `PaletteBlocks::follow`.
use Rattle.std.proofs.Common.{◌≡◌, length, map}
use Rattle.pix_palette.specs.Palette.{numbers}
use Rattle.pix_palette.specs.Finder.{HasBlocks}
use Rattle.pix_palette.proofs.palette.palette_blocks.PaletteBlocks.follow.Given as goal

-- there are k blocks
abbrev pub invariant-loop-k : goal.invariant-loop-k
invariant-loop-k l = record {
  has : HasBlocks (map numbers l.colors) l.self;
  count : length l.self.blocks.items ≡ l.k;
}
