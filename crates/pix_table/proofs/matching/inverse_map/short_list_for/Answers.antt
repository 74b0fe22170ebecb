-- Of `short_list_for`: that nothing but the credit has changed before the list is made.
use Rattle.std.proofs.Common.{map}
use Rattle.pix_table.specs.matching.Nearest.{numbers}
use Rattle.pix_table.proofs.lemmas.matching.ShortLists.{cells_same, list_same}
use Rattle.pix_table.proofs.matching.inverse_map.short_list_for.Goals as goal

pub returns-then-not-pays-clause-cells : goal.returns-then-not-pays-clause-cells
returns-then-not-pays-clause-cells c = cells_same (map numbers c.args.entries.now) c.args.cells.now c.pays.new.cells c.pays.ensures c.requires.cells

pub short_list-requires-clause-cells : goal.short_list-requires-clause-cells
short_list-requires-clause-cells c = cells_same (map numbers c.args.entries.now) c.args.cells.now c.pays.new.cells c.pays.ensures c.requires.cells

pub short_list-requires-clause-from : goal.short_list-requires-clause-from
short_list-requires-clause-from c =
    list_same (map numbers c.args.entries.now) c.args.cells.now c.pays.new.cells c.args.place c.args.from c.pays.ensures c.requires.from
