-- Of `BlockEnds::near_bits`: that only the bits of blocks that are farther are clear.
use Rattle.std.proofs.Common.{arith}
use Rattle.pix_table.proofs.lemmas.matching.BlockKeys.{clear_lane_above}
use Rattle.pix_table.proofs.rgba.near_blocks.BlockEnds.near_bits.Goals as goal

pub returns : goal.returns
returns c = λ j below clear.
    let above = clear_lane_above c.bounds-bounds.result j c.min.result c.bounds-bounds.ensures.long below clear in
    omega (arith, above, c.min.ensures, c.bounds-bounds.ensures.each j below)
