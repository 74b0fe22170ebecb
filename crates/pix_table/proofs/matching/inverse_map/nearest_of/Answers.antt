-- Of `nearest_of`: that the list of the color's cell is enough for it.
use Rattle.std.proofs.Common.{arith, map}
use Rattle.pix_table.specs.matching.Nearest.{numbers}
use Rattle.pix_table.specs.declared.matching.inverse_map.ShortList.{ShortList}
use Rattle.pix_table.proofs.lemmas.matching.ShortLists.{list_of}
use Rattle.pix_table.proofs.matching.inverse_map.nearest_of.Goals as goal

pub returns-then-known-lt-LONG-clause-nearest : goal.returns-then-known-lt-LONG-clause-nearest
returns-then-known-lt-LONG-clause-nearest c =
    let d : ShortList = record { start = 0; count = 0 } in
    let list = list_of (map numbers c.args.entries.now) c.args.cells.now c.place_of.result d c.requires.cells (omega arith) (omega arith) in
    c.nearest_in_list.ensures (map numbers c.args.entries.now) c.requires.words (list.short_list (numbers c.args.clr) c.place_of.ensures.inside)
