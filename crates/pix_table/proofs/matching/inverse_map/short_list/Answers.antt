-- Of `short_list`: that the cells are right with one list more.
use Rattle.std.proofs.Common.{map, refl, arith, ◌∙◌}
use Rattle.pix_table.specs.matching.Nearest.{numbers}
use Rattle.pix_table.proofs.lemmas.matching.ShortLists.{cells_more, known_as, known_stays}
use Rattle.pix_table.proofs.matching.inverse_map.short_list.Goals as goal

pub returns-then-from-le-AT_ONCE-clause-cells : goal.returns-then-from-le-AT_ONCE-clause-cells
returns-then-from-le-AT_ONCE-clause-cells c =
    let entries = map numbers c.args.entries.now in
    let old = c.args.cells.now in
    cells_more entries old _ c.args.place c.args.from c.requires.cells c.requires.begun refl refl c.requires.cells.lists (omega arith) c.requires.cells.used
    (λ k b. refl) (known_as entries old c.args.place c.args.from c.requires.from)

pub returns-then-count-from-clause-cells : goal.returns-then-count-from-clause-cells
returns-then-count-from-clause-cells c =
    let entries = map numbers c.args.entries.now in
    let old = c.args.cells.now in
    let before = c.sift-count.ensures.before in
    cells_more entries old _ c.args.place c.args.from c.requires.cells c.requires.begun refl refl (c.sift-count.auto.lists ∙ c.requires.cells.lists) (omega arith) c.requires.cells.used before
    (known_stays entries old.lists c.sift-count.new.lists old.used old.used c.args.place c.args.from (omega arith) before
    (known_as entries old c.args.place c.args.from c.requires.from))

pub returns-clause-cells : goal.returns-clause-cells
returns-clause-cells c =
    let entries = map numbers c.args.entries.now in
    let old = c.args.cells.now in
    cells_more entries old _ c.args.place _ c.requires.cells c.requires.begun refl refl (c.sift-count.auto.lists ∙ c.requires.cells.lists) (omega arith) (omega arith) c.sift-count.ensures.before
    (λ some. (record { few = omega arith; before = omega arith }, rw (c.low_of-low.ensures.low, c.reach_of-reach.ensures) at c.sift-count.ensures.short_list))
