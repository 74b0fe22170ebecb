-- Of `gaps`: that those of the channels are added.
use Rattle.std.proofs.Common.{◌≡◌, length, get_or, ap, ◌∙◌, arith}
use Rattle.pix_chan.specs.Number.{saturating_sum}
use Rattle.pix_table.proofs.lemmas.matching.LaneNumbers.{lane_of, long_of}
use Rattle.pix_table.proofs.rgba.near_blocks.gaps.Goals as goal

pub returns-clause-each : goal.returns-clause-each
returns-clause-each c = λ j below.
    let red = c.gap-red.ensures in
    let green = c.gap-green.ensures in
    let blue = c.gap-blue.ensures in
    let long : length c.sums.result ≡ 16 =
    ap length c.sums.ensures ∙ long_of (saturating_sum 65535) c.gap-red.result c.gap-green.result red.long green.long in
    let two : get_or c.sums.result j 0 ≡ saturating_sum 65535 (get_or c.gap-red.result j 0) (get_or c.gap-green.result j 0) =
    ap (λ xs. get_or xs j 0) c.sums.ensures ∙ lane_of (saturating_sum 65535) c.gap-red.result c.gap-green.result j red.long green.long below in
    let three : get_or c.sums-2.result j 0 ≡ saturating_sum 65535 (get_or c.sums.result j 0) (get_or c.gap-blue.result j 0) =
    ap (λ xs. get_or xs j 0) c.sums-2.ensures ∙ lane_of (saturating_sum 65535) c.sums.result c.gap-blue.result j long blue.long below in
    omega (arith, two, three, red.each j below, green.each j below, blue.each j below)
