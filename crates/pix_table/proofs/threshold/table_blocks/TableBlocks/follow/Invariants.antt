-- What holds at each turn of the loop over `k` in `TableBlocks::follow`.
use Rattle.std.specs.Prelude.{◌≡◌, map}
use Rattle.pix_table.specs.threshold.TableBlocks.{HasBlocks}
use Rattle.pix_table.proofs.threshold.table_blocks.TableBlocks.follow.Given as goal

-- there are blocks of the entries before that of the index
abbrev pub invariant-loop-k : goal.invariant-loop-k
invariant-loop-k g l = record {
  has : HasBlocks (map g.C.TableColor.channels l.colors) l.self;
  len : l.self.len ≡ l.k;
}
