-- Of `TableCache::new`: that it is right for any table.
use Rattle.pix_table.specs.threshold.Setting.{Always}
use Rattle.pix_table.proofs.lemmas.threshold.CachedColors.{none_right}
use Rattle.pix_table.proofs.threshold.table_blocks.TableCache.new.Goals as goal

pub returns : goal.returns
returns c = λ threshold entries. record {
  right = none_right (Always threshold) entries _ c.new.ensures;
  blocks = c.new-2.ensures entries;
}
