-- What holds at each turn of the loop in `first_near`.
use Rattle.std.proofs.Common.{◌≡◌, ◌≤◌, ◌+◌, ℕ, length}
use Rattle.std.specs.Int.{bit_at}
use Rattle.pix_table.specs.matching.Nearest.{numbers}
use Rattle.pix_table.specs.matching.BlockBounds.{AreFarBefore}
use Rattle.pix_table.proofs.threshold.in_blocks.first_near.Given as goal

-- the blocks before k are far, and `rest` has the bits from k on
abbrev pub invariant-loop-rest : goal.invariant-loop-rest
invariant-loop-rest l = record {
  within : l.k ≤ length l.blocks;
  rest : (j : ℕ) → bit_at l.bits (l.k + j) ≡ bit_at l.rest j;
  far : AreFarBefore l.blocks l.bits (numbers l.clr) (numbers l.least) l.k;
}

abbrev pub decreases-loop-rest : goal.decreases-loop-rest
decreases-loop-rest l = l.rest
