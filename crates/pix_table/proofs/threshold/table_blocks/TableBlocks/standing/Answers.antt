-- Of `TableBlocks::standing`: that the blocks, with their bounds, are those of the entries.
use Rattle.std.proofs.Common.{map}
use Rattle.pix_table.proofs.lemmas.threshold.SmallBlocks.{are_blocks, are_spans}
use Rattle.pix_table.proofs.threshold.table_blocks.TableBlocks.standing.Goals as goal

pub standing_in-requires-clause-blocks : goal.standing_in-requires-clause-blocks
standing_in-requires-clause-blocks g c = are_blocks (map g.C.TableColor.channels c.args.colors.now) _ c.follow.ensures

pub standing_in-requires-clause-spans : goal.standing_in-requires-clause-spans
standing_in-requires-clause-spans g c = are_spans (map g.C.TableColor.channels c.args.colors.now) _ c.follow.ensures
