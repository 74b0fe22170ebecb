-- Of `TableBlocks::add`: the blocks with one more.
use Rattle.std.proofs.Common.{arith}
use Rattle.std.proofs.lemmas.List.{get_or_default}
use Rattle.pix_table.proofs.lemmas.threshold.SmallBlocks.{block_added}
use Rattle.pix_table.proofs.threshold.table_blocks.TableBlocks.add.Goals as goal

pub returns-clause-added : goal.returns-clause-added
returns-clause-added c = λ entries h is.
    block_added entries c.args.self.now c.args.block _ c.set.new.self h c.requires is (get_or_default c.args.self.now.spans 0 _ _ (omega (arith, h.one))) c.set.ensures.own c.set.ensures.others
