-- Of `refined_of_pairs`: that the table of the pairs is that of their colors.
use Rattle.std.proofs.Common.{◌≡◌, ◌++◌, ◌<◌, All, IsPermutation, map, take, drop, sum_by, arith, sym, ap, ◌∙◌, subst, take_all, length-take, length}
use Rattle.std.specs.Simd.{first_chunks}
use Rattle.std.proofs.lemmas.List.{take-append-le}
use Rattle.std.proofs.lemmas.List.Sorted.{All-permutation, IsPermutation-refl, IsPermutation-trans, sum_by-IsPermutation}
use Rattle.pix_table.specs.quantization.Items.{IsItem, pair_items, spread, times_of}
use Rattle.pix_table.specs.SeenPixels.{AreSeen, seen_numbers}
use Rattle.pix_table.specs.quantization.SeenItems.{IsSeenItem}
use Rattle.pix_table.proofs.lemmas.quantization.ItemLists.{spread-moved}
use Rattle.pix_table.proofs.lemmas.quantization.PairItems.{pairs_taken}
use Rattle.pix_table.proofs.lemmas.quantization.SeenItems.{fit_items}
use Rattle.pix_table.proofs.lemmas.quantization.SeenMade.{seen_moved}
use Rattle.pix_table.proofs.rgba.quantization.refined_of_pairs.Goals as goal

pub cut_seen_table-count-requires-clause-fit : goal.cut_seen_table-count-requires-clause-fit
cut_seen_table-count-requires-clause-fit c =
    subst (All IsSeenItem) (sym (pairs_taken seen_numbers c.args.pairs c.args.colors.now c.as_chunks_mut-chunks.result.0.now c.as_chunks_mut-chunks.ensures.front c.requires.inside))
    (fit_items _ c.requires.items c.requires.colors)

pub cut_seen_table-count-requires-clause-few : goal.cut_seen_table-count-requires-clause-few
cut_seen_table-count-requires-clause-few c =
    subst (λ l. sum_by (times_of 4) l < 18446744073709551616)
    (sym (pairs_taken seen_numbers c.args.pairs c.args.colors.now c.as_chunks_mut-chunks.result.0.now c.as_chunks_mut-chunks.ensures.front c.requires.inside)) c.requires.count

pub refine_seen_items-requires-clause-colors : goal.refine_seen_items-requires-clause-colors
refine_seen_items-requires-clause-colors c =
    let before = pair_items seen_numbers (take c.args.pairs c.as_chunks_mut-chunks.result.0.now) in
    let after = pair_items seen_numbers c.cut_seen_table-count.new.items in
    All-permutation AreSeen (spread 4 before) (spread 4 after) (spread-moved 4 before after c.cut_seen_table-count.ensures.moved)
    (subst (λ l. All AreSeen (spread 4 l))
    (sym (pairs_taken seen_numbers c.args.pairs c.args.colors.now c.as_chunks_mut-chunks.result.0.now c.as_chunks_mut-chunks.ensures.front c.requires.inside))
    c.requires.colors)

pub refine_seen_items-requires-clause-items : goal.refine_seen_items-requires-clause-items
refine_seen_items-requires-clause-items c =
    All-permutation (IsItem 4) (pair_items seen_numbers (take c.args.pairs c.as_chunks_mut-chunks.result.0.now)) (pair_items seen_numbers c.cut_seen_table-count.new.items)
    c.cut_seen_table-count.ensures.moved
    (subst (All (IsItem 4)) (sym (pairs_taken seen_numbers c.args.pairs c.args.colors.now c.as_chunks_mut-chunks.result.0.now c.as_chunks_mut-chunks.ensures.front c.requires.inside))
    c.requires.items)

pub refine_seen_items-requires-clause-count : goal.refine_seen_items-requires-clause-count
refine_seen_items-requires-clause-count c =
    let same : pair_items seen_numbers (take c.args.pairs c.as_chunks_mut-chunks.result.0.now) ≡ pair_items seen_numbers (first_chunks 2 c.args.pairs c.args.colors.now) =
    pairs_taken seen_numbers c.args.pairs c.args.colors.now c.as_chunks_mut-chunks.result.0.now c.as_chunks_mut-chunks.ensures.front c.requires.inside in
    omega (
      arith,
      sum_by-IsPermutation (times_of 4) (pair_items seen_numbers (take c.args.pairs c.as_chunks_mut-chunks.result.0.now)) (pair_items seen_numbers c.cut_seen_table-count.new.items)
          c.cut_seen_table-count.ensures.moved,
      ap (sum_by (times_of 4)) same,
      c.requires.count,
    )

pub returns-clause-table : goal.returns-clause-table
returns-clause-table c = λ all moved.
    let count = c.cut_seen_table-count.result in
    let entries = c.cut_seen_table-count.new.entries in
    let items = pair_items seen_numbers (take c.args.pairs c.as_chunks_mut-chunks.result.0.now) in
    let same : pair_items seen_numbers (take c.args.pairs c.as_chunks_mut-chunks.result.0.now) ≡ pair_items seen_numbers (first_chunks 2 c.args.pairs c.args.colors.now) =
    pairs_taken seen_numbers c.args.pairs c.args.colors.now c.as_chunks_mut-chunks.result.0.now c.as_chunks_mut-chunks.ensures.front c.requires.inside in
    let before : IsPermutation all (spread 4 (pair_items seen_numbers (take c.args.pairs c.as_chunks_mut-chunks.result.0.now))) =
    subst (λ l. IsPermutation all (spread 4 l)) (sym same) moved in
    let after : IsPermutation all (spread 4 (pair_items seen_numbers c.cut_seen_table-count.new.items)) =
    IsPermutation-trans all (spread 4 items) (spread 4 (pair_items seen_numbers c.cut_seen_table-count.new.items)) before
    (spread-moved 4 items (pair_items seen_numbers c.cut_seen_table-count.new.items) c.cut_seen_table-count.ensures.moved) in
    seen_moved c.args.rounds (length c.args.entries.now) all all (map seen_numbers (take count entries)) (map seen_numbers c.refine_seen_items.new.entries)
    (map seen_numbers (take count (c.refine_seen_items.new.entries ++ drop count entries))) (IsPermutation-refl all) (c.cut_seen_table-count.ensures.table all before)
    (c.refine_seen_items.ensures.refined all after)
    (ap (map seen_numbers)
    (take-append-le count c.refine_seen_items.new.entries (drop count entries)
    (omega (arith, c.refine_seen_items.auto.entries, length-take count entries, c.cut_seen_table-count.ensures.within))
    ∙ take_all count c.refine_seen_items.new.entries (omega (arith, c.refine_seen_items.auto.entries, length-take count entries))))
