-- Of `BlockEnds::bounds`: that those over black and over white are added.
use Rattle.std.proofs.Common.{◌≡◌, get_or, ap, ◌∙◌, arith}
use Rattle.pix_chan.specs.Number.{saturating_sum}
use Rattle.pix_table.proofs.lemmas.matching.LaneNumbers.{lane_of}
use Rattle.pix_table.proofs.rgba.near_blocks.BlockEnds.bounds.Goals as goal

pub returns-clause-each : goal.returns-clause-each
returns-clause-each c = λ j below.
    let black = c.gaps-black.ensures in
    let white = c.gaps.ensures in
    let both : get_or c.sums.result j 0 ≡ saturating_sum 65535 (get_or c.gaps-black.result j 0) (get_or c.gaps.result j 0) =
    ap (λ xs. get_or xs j 0) c.sums.ensures ∙ lane_of (saturating_sum 65535) c.gaps-black.result c.gaps.result j black.long white.long below in
    omega (arith, both, black.each j below, white.each j below)
