-- Blocks of the entries of a small table. No clause of a public call cites this file.
use Rattle.std.specs.Prelude.{◌≡◌, ℕ, ◌*◌, ◌<◌, ◌≤◌, List, length, slice_index_or}
use Rattle.pix_table.specs.threshold.ColorBlocks.{IsBlock}
use Rattle.pix_table.specs.matching.BlockBounds.{Covers}
use Rattle.pix_table.specs.threshold.ColorCache.{AreRight}
use Rattle.pix_table.specs.threshold.Setting.{Always}
use Rattle.pix_table.specs.declared.matching.block_bounds.BlockBounds.{BlockBounds}
use Rattle.pix_table.specs.declared.threshold.color_block.ColorBlock.{ColorBlock}
use Rattle.pix_table.specs.declared.threshold.table_blocks.TableBlocks.{TableBlocks}
use Rattle.pix_table.specs.declared.threshold.table_blocks.TableCache.{TableCache}

-- blocks of the first entries, with their bounds
pub record HasBlocks (entries : List (List ℕ)) (has : TableBlocks) : Type 0 where
  pub few : has.len ≤ 16
  pub long : length has.blocks ≡ 16
  pub one : length has.spans ≡ 1
  pub blocks : (k : ℕ) (d : ColorBlock) → k < has.len → IsBlock entries (16 * k) (slice_index_or has.blocks k d)
  pub spans : (k : ℕ) (d : ColorBlock) (s : BlockBounds) → k < has.len → Covers (slice_index_or has.spans 0 s) k (slice_index_or has.blocks k d)

-- what is cached beside a table is right for it
pub record IsTableCache (threshold : List ℕ) (entries : List (List ℕ)) (beside : TableCache) : Type 0 where
  pub right : AreRight (Always threshold) entries beside.cache.cached
  pub blocks : HasBlocks entries beside.blocks
