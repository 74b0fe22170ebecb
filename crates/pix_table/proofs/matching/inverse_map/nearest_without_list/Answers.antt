-- Of `nearest_without_list`: that nothing but the credit has changed at first, and that the list which
-- is made is enough for the color.
use Rattle.std.proofs.Common.{map, refl}
use Rattle.pix_table.specs.matching.Nearest.{numbers}
use Rattle.pix_table.proofs.lemmas.matching.ShortLists.{cells_same}
use Rattle.pix_table.proofs.matching.inverse_map.nearest_without_list.Goals as goal

pub small_short_list-requires-clause-cells : goal.small_short_list-requires-clause-cells
small_short_list-requires-clause-cells c =
    cells_same (map numbers c.args.entries.now) c.args.cells.now _ (record { known = refl; lists = refl; used = refl; first = refl }) c.requires.cells

pub returns-in-Some-clause-nearest : goal.returns-in-Some-clause-nearest
returns-in-Some-clause-nearest c =
    c.nearest_from.ensures (map numbers c.args.entries.now) c.requires.lanes c.requires.words
    (c.in-Some.ensures.short_list.short_list (numbers c.args.clr) c.place_of-place.ensures.inside)
