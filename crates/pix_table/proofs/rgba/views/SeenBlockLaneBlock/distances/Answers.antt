-- Of `distances` of `SeenBlock`: that the distances over black and over white are added.
use Rattle.std.proofs.Common.{ap, get_or, ◌∙◌}
use Rattle.pix_chan.specs.Number.{saturating_sum}
use Rattle.pix_table.proofs.lemmas.matching.LaneNumbers.{lane_of}
use Rattle.pix_table.proofs.lemmas.matching.SeenLaneEntries.{both_summed}
use Rattle.pix_table.proofs.rgba.views.SeenBlockLaneBlock.distances.Goals as goal

pub returns-clause-each : goal.returns-clause-each
returns-clause-each c = λ i below.
    both_summed _ _ _ _ _ (c.distances-black.ensures.each i below) (c.distances.ensures.each i below)
    (ap (λ xs. get_or xs i 0) c.sums.ensures
    ∙ lane_of (saturating_sum 65535) c.distances-black.result c.distances.result i c.distances-black.ensures.long c.distances.ensures.long below)
