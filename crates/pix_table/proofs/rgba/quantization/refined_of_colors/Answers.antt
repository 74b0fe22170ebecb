-- Of `refined_of_colors`: that the order of the colors does not matter.
use Rattle.std.proofs.Common.{◌++◌, ◌<◌, All, IsPermutation, map, take, drop, length, arith, ap, ◌∙◌, refl, sym, subst, take_all, length-take}
use Rattle.std.proofs.lemmas.List.{take-append-le}
use Rattle.std.proofs.lemmas.List.Sorted.{All-permutation, IsPermutation-refl, IsPermutation-sym}
use Rattle.pix_table.specs.SeenPixels.{AreSeen, seen_numbers}
use Rattle.pix_table.proofs.lemmas.quantization.SeenItems.{fit_items}
use Rattle.pix_table.proofs.lemmas.quantization.SeenMade.{seen_moved}
use Rattle.pix_table.proofs.lemmas.quantization.Singles.{singles_are, singles_count, singles_moved, spread_singles}
use Rattle.pix_table.proofs.rgba.quantization.refined_of_colors.Goals as goal

pub cut_seen_table-count-requires-clause-fit : goal.cut_seen_table-count-requires-clause-fit
cut_seen_table-count-requires-clause-fit c =
    fit_items _ (singles_are seen_numbers 4 (λ x. refl) c.args.colors.now)
    (subst (All AreSeen) (sym (spread_singles seen_numbers 4 (λ x. refl) c.args.colors.now)) c.requires.seen)

pub cut_seen_table-count-requires-clause-few : goal.cut_seen_table-count-requires-clause-few
cut_seen_table-count-requires-clause-few c = omega (arith, singles_count seen_numbers 4 (λ x. refl) c.args.colors.now)

pub refine_seen-requires-clause-colors : goal.refine_seen-requires-clause-colors
refine_seen-requires-clause-colors c =
    All-permutation AreSeen (map seen_numbers c.args.colors.now) (map seen_numbers c.cut_seen_table-count.new.items) (singles_moved seen_numbers 4 (λ x. refl) _ _ c.cut_seen_table-count.ensures.moved)
    c.requires.seen

pub returns-clause-table : goal.returns-clause-table
returns-clause-table c =
    let count = c.cut_seen_table-count.result in
    let entries = c.cut_seen_table-count.new.entries in
    seen_moved c.args.rounds (length c.args.entries.now) (map seen_numbers c.cut_seen_table-count.new.items) (map seen_numbers c.args.colors.now)
    (map seen_numbers (take count entries)) (map seen_numbers c.refine_seen.new.entries) (map seen_numbers (take count (c.refine_seen.new.entries ++ drop count entries)))
    (IsPermutation-sym (map seen_numbers c.args.colors.now) (map seen_numbers c.cut_seen_table-count.new.items) (singles_moved seen_numbers 4 (λ x. refl) _ _ c.cut_seen_table-count.ensures.moved))
    (c.cut_seen_table-count.ensures.table (map seen_numbers c.args.colors.now)
    (subst (IsPermutation (map seen_numbers c.args.colors.now)) (sym (spread_singles seen_numbers 4 (λ x. refl) c.args.colors.now))
    (IsPermutation-refl (map seen_numbers c.args.colors.now)))) c.refine_seen.ensures.refined
    (ap (map seen_numbers)
    (take-append-le count c.refine_seen.new.entries (drop count entries)
    (omega (arith, c.refine_seen.auto.entries, length-take count entries, c.cut_seen_table-count.ensures.within))
    ∙ take_all count c.refine_seen.new.entries (omega (arith, c.refine_seen.auto.entries, length-take count entries))))
