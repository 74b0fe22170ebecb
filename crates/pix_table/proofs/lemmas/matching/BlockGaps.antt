-- A color between two others is at least as far from a color as these are.
use Rattle.std.proofs.Common.{ℕ, ◌+◌, ◌-◌, ◌≤◌, ◌*◌, List, arith, get_or}
use Rattle.std.proofs.lemmas.Nat.{mul-le}
use Rattle.pix_table.specs.matching.BlockGaps.{gap, block_gap}
use Rattle.pix_table.specs.threshold.ColorBlocks.{Lies}
use Rattle.pix_table.specs.matching.Nearest.{distance, squared_difference}

number_gap : (low high q n : ℕ) → low ≤ q → q ≤ high → gap low high n ≤ squared_difference q n
number_gap low high q n below above =
    let nearer : (low - n) + (n - high) ≤ (q - n) + (n - q) = omega (arith, below, above) in
    mul-le ((low - n) + (n - high)) ((low - n) + (n - high)) ((q - n) + (n - q)) ((q - n) + (n - q)) nearer nearer

pub gap_least : (low high q color : List ℕ) → Lies low high q → block_gap low high color ≤ distance q color
gap_least low high q color h = omega (
  arith,
  number_gap (get_or low 0 0) (get_or high 0 0) (get_or q 0 0) (get_or color 0 0) h.red_low h.red_high,
  number_gap (get_or low 1 0) (get_or high 1 0) (get_or q 1 0) (get_or color 1 0) h.green_low h.green_high,
  number_gap (get_or low 2 0) (get_or high 2 0) (get_or q 2 0) (get_or color 2 0) h.blue_low h.blue_high,
)
