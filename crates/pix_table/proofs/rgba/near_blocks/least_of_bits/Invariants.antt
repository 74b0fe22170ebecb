-- What holds at each turn of the loop in `least_of_bits`.
use Rattle.std.proofs.Common.{◌≡◌, ◌≤◌, ◌+◌, ◌*◌, ℕ, length}
use Rattle.std.specs.Int.{bit_at}
use Rattle.pix_table.specs.matching.Lanes.{IsLaneKey}
use Rattle.pix_table.specs.matching.NearBlocks.{far_lane}
use Rattle.pix_table.proofs.lemmas.matching.BlockKeys.{IsLeastOfBits}
use Rattle.pix_table.proofs.rgba.near_blocks.least_of_bits.Given as goal

-- the key is no greater than those of the first k blocks whose bit is set, and `rest` has the bits from k on
abbrev pub invariant-loop-rest : goal.invariant-loop-rest
invariant-loop-rest l = record {
  within : l.k ≤ length l.blocks;
  rest : (j : ℕ) → bit_at l.bits (l.k + j) ≡ bit_at l.rest j;
  is : IsLaneKey (far_lane l.blocks l.sought) (16 * length l.blocks) l.key;
  least : l.key ≤ l.first;
  each : IsLeastOfBits (far_lane l.blocks l.sought) l.bits l.k l.key;
}

abbrev pub decreases-loop-rest : goal.decreases-loop-rest
decreases-loop-rest l = l.rest
