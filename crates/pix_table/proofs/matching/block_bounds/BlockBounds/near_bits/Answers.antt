-- Of `BlockBounds::near_bits`: that the bits of lanes that are 0 are set.
use Rattle.std.proofs.Common.{arith}
use Rattle.pix_table.proofs.BitLemmas.{zero_lane_set}
use Rattle.pix_table.proofs.matching.block_bounds.BlockBounds.near_bits.Goals as goal

pub returns : goal.returns
returns c = λ j below met. zero_lane_set c.gaps-gaps.result j (omega arith) below (c.gaps-gaps.ensures j below met)
