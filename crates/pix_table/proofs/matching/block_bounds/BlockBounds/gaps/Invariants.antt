-- What holds at each turn of the loop over `j` in `BlockBounds::gaps`.
use Rattle.std.proofs.Common.{◌≡◌, ◌<◌, ℕ, get_or, length, true}
use Rattle.pix_table.specs.matching.Nearest.{numbers}
use Rattle.pix_table.specs.matching.BlockBounds.{greatest_at, least_at, meets}
use Rattle.pix_table.proofs.matching.block_bounds.BlockBounds.gaps.Given as goal

-- of the first j blocks those whose bounds meet have 0
abbrev pub invariant-loop-j : goal.invariant-loop-j
invariant-loop-j l = record {
  long : length l.gaps ≡ 16;
  each : (j : ℕ) → j < l.j → meets (numbers l.low) (numbers l.high) (least_at l.self j) (greatest_at l.self j) ≡ true → get_or l.gaps j 0 ≡ 0;
}
