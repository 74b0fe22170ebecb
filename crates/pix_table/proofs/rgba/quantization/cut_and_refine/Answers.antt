-- Of `cut_and_refine`: that there is a pair, that the colors of the pairs are seen ones, and that all counts make no more than the pixels.
use Rattle.std.proofs.Common.{length, map, take, arith, subst}
use Rattle.std.specs.Simd.{first_chunks}
use Rattle.std.proofs.lemmas.List.{length-map}
use Rattle.std.proofs.lemmas.List.Sorted.{All-permutation}
use Rattle.pix_table.specs.quantization.Items.{pair_items, spread}
use Rattle.pix_table.specs.SeenPixels.{AreSeen, seen_numbers}
use Rattle.pix_table.specs.quantization.SeenTables.{IsSeenTable}
use Rattle.pix_table.proofs.lemmas.quantization.PairItems.{some_pairs, times_in_all}
use Rattle.pix_table.proofs.rgba.quantization.cut_and_refine.Goals as goal

pub refined_of_pairs-requires-clause-some : goal.refined_of_pairs-requires-clause-some
refined_of_pairs-requires-clause-some g c =
    some_pairs seen_numbers 4 c.in-Some.pairs c.count_pairs.new.colors (map seen_numbers c.gather.new.colors) c.in-Some.ensures.2
    (omega (arith, c.requires.some, c.requires.work, c.gather.auto.colors, length-map c.gather.new.colors seen_numbers))

pub refined_of_pairs-requires-clause-colors : goal.refined_of_pairs-requires-clause-colors
refined_of_pairs-requires-clause-colors g c =
    All-permutation AreSeen (map seen_numbers c.gather.new.colors)
    (spread 4 (pair_items seen_numbers (first_chunks 2 c.in-Some.pairs c.count_pairs.new.colors))) c.in-Some.ensures.2 c.gather.ensures.seen

pub refined_of_pairs-requires-clause-count : goal.refined_of_pairs-requires-clause-count
refined_of_pairs-requires-clause-count g c =
    omega (
      arith,
      times_in_all 4 (map seen_numbers c.gather.new.colors) (pair_items seen_numbers (first_chunks 2 c.in-Some.pairs c.count_pairs.new.colors))
          c.in-Some.ensures.2,
      length-map c.gather.new.colors seen_numbers,
    )

pub returns-in-None-clause-table : goal.returns-in-None-clause-table
returns-in-None-clause-table g c =
    subst (λ l. IsSeenTable c.args.rounds (length c.args.entries.now) l (map seen_numbers (take c.refined_of_colors.result c.refined_of_colors.new.entries)))
    c.gather-in-None.ensures.gathered c.refined_of_colors.ensures.table
