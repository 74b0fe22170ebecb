-- Of `PaletteBlocks::take_memory`: that there is no block yet in the memory that was given.
use Rattle.pix_palette.proofs.PaletteBlocksMore.{no_blocks, no_spans}
use Rattle.pix_palette.proofs.palette.palette_blocks.PaletteBlocks.take_memory.Goals as goal

pub returns : goal.returns
returns c = λ colors h. record {
  blocks = no_blocks colors _ c.in-Ok.ensures.items;
  spans = no_spans _ _ c.in-Ok.ensures.items;
}
