-- Of `cut_table`: that the table is that of the colors.
use Rattle.std.proofs.Common.{length}
use Rattle.pix_table.specs.quantization.Cut.{mean}
use Rattle.pix_table.specs.quantization.Places.{weight}
use Rattle.pix_table.proofs.lemmas.quantization.ItemTables.{table_of_items}
use Rattle.pix_table.proofs.lemmas.quantization.MovedBoxes.{mean_moved, weight_moved}
use Rattle.pix_table.proofs.quantization.color_items.cut_table.Goals as goal

pub returns-clause-table : goal.returns-clause-table
returns-clause-table g c =
    table_of_items 3 weight mean weight_moved mean_moved (length c.args.entries.now) _ _ c.requires.fit c.cut_items.ensures.table
