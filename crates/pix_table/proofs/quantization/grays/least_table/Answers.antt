-- Of `least_table`: that there is a level, and that the table has the least squared error.
use Rattle.pix_table.specs.quantization.GrayLevels.{values, weights}
use Rattle.pix_table.proofs.lemmas.quantization.LevelLemmas.{some_levels}
use Rattle.pix_table.proofs.quantization.grays.least_table.Goals as goal

pub least_parts-requires-clause-levels : goal.least_parts-requires-clause-levels
least_parts-requires-clause-levels c =
    let levels = c.of-levels.result in
    some_levels (weights levels) (values levels) levels.len c.args.colors.now c.requires.some c.of-levels.ensures.of

pub returns-clause-table : goal.returns-clause-table
returns-clause-table c =
    let levels = c.of-levels.result in
    c.least_parts.ensures.table (weights levels) (values levels) c.of-sums.ensures c.args.colors.now c.requires.grays c.of-levels.ensures.of
