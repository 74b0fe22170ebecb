-- Of `refined_of_pairs`: that the table of the pairs is that of their colors.
use Rattle.std.proofs.Common.{◌≡◌, ◌++◌, ◌<◌, All, IsPermutation, map, take, drop, sum_by, arith, sym, ap, ◌∙◌, subst, take_all, length-take, length}
use Rattle.std.specs.Simd.{first_chunks}
use Rattle.std.proofs.lemmas.List.{take-append-le}
use Rattle.std.proofs.lemmas.List.Sorted.{All-permutation, IsPermutation-refl, IsPermutation-trans, sum_by-IsPermutation}
use Rattle.pix_table.specs.quantization.Items.{IsItem, pair_items, spread, times_of}
use Rattle.pix_table.specs.matching.Nearest.{numbers}
use Rattle.pix_table.proofs.lemmas.quantization.ItemLists.{spread-moved}
use Rattle.pix_table.proofs.lemmas.quantization.PairItems.{pairs_taken}
use Rattle.pix_table.proofs.lemmas.quantization.TableRounds.{refined_moved}
use Rattle.pix_table.proofs.quantization.refined_of_pairs.Goals as goal

pub cut_table-count-requires-clause-fit : goal.cut_table-count-requires-clause-fit
cut_table-count-requires-clause-fit c =
    subst (All (IsItem 3)) (sym (pairs_taken numbers c.args.pairs c.args.colors.now c.as_chunks_mut-chunks.result.0.now c.as_chunks_mut-chunks.ensures.front c.requires.inside))
    c.requires.items

pub cut_table-count-requires-clause-few : goal.cut_table-count-requires-clause-few
cut_table-count-requires-clause-few c =
    subst (λ l. sum_by (times_of 3) l < 18446744073709551616)
    (sym (pairs_taken numbers c.args.pairs c.args.colors.now c.as_chunks_mut-chunks.result.0.now c.as_chunks_mut-chunks.ensures.front c.requires.inside)) c.requires.count

pub refine_items-requires-clause-items : goal.refine_items-requires-clause-items
refine_items-requires-clause-items c =
    All-permutation (IsItem 3) (pair_items numbers (take c.args.pairs c.as_chunks_mut-chunks.result.0.now)) (pair_items numbers c.cut_table-count.new.items)
    c.cut_table-count.ensures.moved
    (subst (All (IsItem 3)) (sym (pairs_taken numbers c.args.pairs c.args.colors.now c.as_chunks_mut-chunks.result.0.now c.as_chunks_mut-chunks.ensures.front c.requires.inside))
    c.requires.items)

pub refine_items-requires-clause-count : goal.refine_items-requires-clause-count
refine_items-requires-clause-count c =
    let same : pair_items numbers (take c.args.pairs c.as_chunks_mut-chunks.result.0.now) ≡ pair_items numbers (first_chunks 2 c.args.pairs c.args.colors.now) =
    pairs_taken numbers c.args.pairs c.args.colors.now c.as_chunks_mut-chunks.result.0.now c.as_chunks_mut-chunks.ensures.front c.requires.inside in
    omega (
      arith,
      sum_by-IsPermutation (times_of 3) (pair_items numbers (take c.args.pairs c.as_chunks_mut-chunks.result.0.now)) (pair_items numbers c.cut_table-count.new.items)
          c.cut_table-count.ensures.moved,
      ap (sum_by (times_of 3)) same,
      c.requires.count,
    )

pub returns-clause-table : goal.returns-clause-table
returns-clause-table c = λ all moved.
    let count = c.cut_table-count.result in
    let entries = c.cut_table-count.new.entries in
    let items = pair_items numbers (take c.args.pairs c.as_chunks_mut-chunks.result.0.now) in
    let same : pair_items numbers (take c.args.pairs c.as_chunks_mut-chunks.result.0.now) ≡ pair_items numbers (first_chunks 2 c.args.pairs c.args.colors.now) =
    pairs_taken numbers c.args.pairs c.args.colors.now c.as_chunks_mut-chunks.result.0.now c.as_chunks_mut-chunks.ensures.front c.requires.inside in
    let before : IsPermutation all (spread 3 (pair_items numbers (take c.args.pairs c.as_chunks_mut-chunks.result.0.now))) =
    subst (λ l. IsPermutation all (spread 3 l)) (sym same) moved in
    let after : IsPermutation all (spread 3 (pair_items numbers c.cut_table-count.new.items)) =
    IsPermutation-trans all (spread 3 items) (spread 3 (pair_items numbers c.cut_table-count.new.items)) before
    (spread-moved 3 items (pair_items numbers c.cut_table-count.new.items) c.cut_table-count.ensures.moved) in
    refined_moved c.args.rounds (length c.args.entries.now) all all (map numbers (take count entries)) (map numbers c.refine_items.new.entries)
    (map numbers (take count (c.refine_items.new.entries ++ drop count entries))) (IsPermutation-refl all) (c.cut_table-count.ensures.table all before)
    (c.refine_items.ensures.rounds all after) (c.refine_items.ensures.no_worse all after)
    (ap (map numbers)
    (take-append-le count c.refine_items.new.entries (drop count entries)
    (omega (arith, c.refine_items.auto.entries, length-take count entries, c.cut_table-count.ensures.within))
    ∙ take_all count c.refine_items.new.entries (omega (arith, c.refine_items.auto.entries, length-take count entries))))
