-- Of `refine`: that the rounds of the items are those of the colors.
use Rattle.std.proofs.Common.{map, arith}
use Rattle.std.proofs.lemmas.List.{length-map}
use Rattle.pix_table.specs.matching.Nearest.{distance, numbers}
use Rattle.pix_table.specs.quantization.Refine.{refined}
use Rattle.pix_table.proofs.lemmas.quantization.LeastMeans.{refined_least}
use Rattle.pix_table.proofs.lemmas.quantization.RefinedTables.{rounds_fall}
use Rattle.pix_table.proofs.lemmas.quantization.SumLemmas.{length_sum}
use Rattle.pix_table.proofs.quantization.refine.refine.Goals as goal

pub refine_by-requires-clause-count : goal.refine_by-requires-clause-count
refine_by-requires-clause-count c =
    omega (arith, c.count_colors-items.ensures.items (λ q. 1), length_sum (map numbers c.args.colors.now), length-map c.args.colors.now numbers)

pub returns-clause-rounds : goal.returns-clause-rounds
returns-clause-rounds c = c.refine_by.ensures.rounds (map numbers c.args.colors.now) c.count_colors-items.ensures.items

pub returns-clause-no_worse : goal.returns-clause-no_worse
returns-clause-no_worse c =
    rounds_fall distance refined refined_least c.args.rounds (map numbers c.args.colors.now) (map numbers c.args.entries.now) (map numbers c.refine_by.new.entries)
    (returns-clause-rounds c)
