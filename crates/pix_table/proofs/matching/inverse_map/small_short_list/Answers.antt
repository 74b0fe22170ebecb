-- Of `small_short_list`: that the list of a cell of sixteen is enough for a small one inside it.
use Rattle.std.proofs.Common.{map, refl, arith}
use Rattle.pix_table.specs.matching.Nearest.{numbers}
use Rattle.pix_table.proofs.lemmas.matching.ShortLists.{cells_more, known_as, list_inside}
use Rattle.pix_table.proofs.matching.inverse_map.small_short_list.Goals as goal

pub returns-then-from-gt-SIFTED-clause-cells : goal.returns-then-from-gt-SIFTED-clause-cells
returns-then-from-gt-SIFTED-clause-cells c =
    let entries = map numbers c.args.entries.now in
    let old = c.sixteen_short_list.new.cells in
    let cells = c.in_ok-from.ensures.cells in
    cells_more entries old _ c.args.place c.in_ok-from.from cells c.in_ok-from.ensures.first refl refl cells.lists (omega arith) cells.used (λ k b. refl)
    (known_as entries old c.args.place c.in_ok-from.from
    (list_inside entries old _ c.args.place c.in_ok-from.from c.in_ok-from.ensures.short_list c.sixteen_around-sixteen.ensures.inside))
