-- Of `sixteen_short_list`: that the first list is enough for the largest cell, and the list of each cell
-- for the one of the next size inside it.
use Rattle.std.proofs.Common.{map}
use Rattle.pix_table.specs.matching.Nearest.{numbers}
use Rattle.pix_table.proofs.lemmas.matching.ShortLists.{first_for, list_inside}
use Rattle.pix_table.proofs.matching.inverse_map.sixteen_short_list.Goals as goal

pub short_list_for-requires-clause-from : goal.short_list_for-requires-clause-from
short_list_for-requires-clause-from c = first_for (map numbers c.args.entries.now) c.args.cells.now _ c.requires.cells c.requires.begun

pub short_list_for-requires-2-clause-from : goal.short_list_for-requires-2-clause-from
short_list_for-requires-2-clause-from c =
    list_inside (map numbers c.args.entries.now) _ _ _ _ c.in_ok-first.ensures.short_list c.sixty_four_around-sixty_four.ensures.inside

pub short_list_for-requires-3-clause-from : goal.short_list_for-requires-3-clause-from
short_list_for-requires-3-clause-from c =
    list_inside (map numbers c.args.entries.now) _ _ _ _ c.in_ok-second.ensures.short_list c.thirty_two_around-thirty_two.ensures.inside
