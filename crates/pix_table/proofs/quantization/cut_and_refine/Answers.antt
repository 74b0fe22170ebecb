-- Of `cut_and_refine`: that there is a pair, and that all counts make no more than the pixels.
use Rattle.std.proofs.Common.{◌≡◌, ◌++◌, ◌<◌, length, map, take, drop, sum_by, arith, sym, ◌∙◌, subst, take_all, length-take}
use Rattle.std.specs.Simd.{first_chunks}
use Rattle.std.proofs.lemmas.List.{length-map, take-append-le}
use Rattle.pix_table.specs.quantization.Items.{pair_items, times_of}
use Rattle.pix_table.specs.matching.Nearest.{numbers}
use Rattle.pix_table.specs.quantization.Refine.{IsRefinedCut}
use Rattle.pix_table.proofs.lemmas.quantization.PairItems.{some_pairs, times_in_all}
use Rattle.pix_table.proofs.quantization.cut_and_refine.Goals as goal

pub refined_of_pairs-requires-clause-some : goal.refined_of_pairs-requires-clause-some
refined_of_pairs-requires-clause-some g c =
    some_pairs numbers 3 c.in-Some.pairs c.count_pairs.new.colors (map numbers (take c.args.count c.args.work.now)) c.in-Some.ensures.2
    (omega (arith, c.requires.some, c.requires.inside, length-map (take c.args.count c.args.work.now) numbers, length-take c.args.count c.args.work.now))

pub refined_of_pairs-requires-clause-count : goal.refined_of_pairs-requires-clause-count
refined_of_pairs-requires-clause-count g c =
    let count = c.args.count in
    let colors = c.count_pairs.new.colors in
    let long = length-take c.args.count c.args.work.now in
    let same : take c.args.count (c.count_pairs.new.colors ++ drop c.args.count c.args.work.now) ≡ c.count_pairs.new.colors =
    take-append-le count colors (drop count c.args.work.now) (omega (arith, c.count_pairs.auto.colors, long, c.requires.inside))
    ∙ take_all count colors (omega (arith, c.count_pairs.auto.colors, long)) in
    subst (λ l. sum_by (times_of 3) (pair_items numbers (first_chunks 2 c.in-Some.pairs l)) < 18446744073709551616) (sym same)
    (omega (
      arith,
      times_in_all 3 (map numbers (take count c.args.work.now)) (pair_items numbers (first_chunks 2 c.in-Some.pairs colors)) c.in-Some.ensures.2,
      length-map (take count c.args.work.now) numbers,
      long,
      c.ranges.count.fits,
    ))

pub returns-in-None-clause-table : goal.returns-in-None-clause-table
returns-in-None-clause-table g c =
    subst (λ l. IsRefinedCut c.args.rounds (length c.args.entries.now) l (map numbers (take c.refined_of_colors.result c.refined_of_colors.new.entries)))
    c.gather-again.ensures.shown c.refined_of_colors.ensures.table
