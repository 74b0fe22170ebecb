-- Of `refined_of_colors`: that the order of the colors does not matter.
use Rattle.std.proofs.Common.{◌++◌, ◌<◌, IsPermutation, map, take, drop, length, arith, ap, ◌∙◌, refl, sym, subst, take_all, length-take}
use Rattle.std.proofs.lemmas.List.{take-append-le}
use Rattle.std.proofs.lemmas.List.Sorted.{IsPermutation-refl, IsPermutation-sym}
use Rattle.pix_table.specs.matching.Nearest.{numbers}
use Rattle.pix_table.proofs.lemmas.quantization.Singles.{singles_are, singles_count, singles_moved, spread_singles}
use Rattle.pix_table.proofs.lemmas.quantization.TableRounds.{refined_moved}
use Rattle.pix_table.proofs.quantization.refined_of_colors.Goals as goal

pub cut_table-count-requires-clause-fit : goal.cut_table-count-requires-clause-fit
cut_table-count-requires-clause-fit c = singles_are numbers 3 (λ x. refl) c.args.colors.now

pub cut_table-count-requires-clause-few : goal.cut_table-count-requires-clause-few
cut_table-count-requires-clause-few c = omega (arith, singles_count numbers 3 (λ x. refl) c.args.colors.now)

pub returns-clause-table : goal.returns-clause-table
returns-clause-table c =
    let count = c.cut_table-count.result in
    let entries = c.cut_table-count.new.entries in
    refined_moved c.args.rounds (length c.args.entries.now) (map numbers c.cut_table-count.new.items) (map numbers c.args.colors.now)
    (map numbers (take count entries)) (map numbers c.refine.new.entries) (map numbers (take count (c.refine.new.entries ++ drop count entries)))
    (IsPermutation-sym (map numbers c.args.colors.now) (map numbers c.cut_table-count.new.items) (singles_moved numbers 3 (λ x. refl) _ _ c.cut_table-count.ensures.moved))
    (c.cut_table-count.ensures.table (map numbers c.args.colors.now)
    (subst (IsPermutation (map numbers c.args.colors.now)) (sym (spread_singles numbers 3 (λ x. refl) c.args.colors.now))
    (IsPermutation-refl (map numbers c.args.colors.now)))) c.refine.ensures.rounds c.refine.ensures.no_worse
    (ap (map numbers)
    (take-append-le count c.refine.new.entries (drop count entries)
    (omega (arith, c.refine.auto.entries, length-take count entries, c.cut_table-count.ensures.within))
    ∙ take_all count c.refine.new.entries (omega (arith, c.refine.auto.entries, length-take count entries))))
