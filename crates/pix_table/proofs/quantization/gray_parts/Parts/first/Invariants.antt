-- What holds at each turn of the loop over `end` in `first`.
use Rattle.std.proofs.Common.{◌≡◌, ℕ, ◌<◌, ◌≤◌, get_or, length}
use Rattle.pix_table.specs.quantization.GrayLevels.{error_of}
use Rattle.pix_table.proofs.quantization.gray_parts.Parts.first.Given as goal

-- the errors of fewer levels than end are found
abbrev pub invariant-loop-end : goal.invariant-loop-end
invariant-loop-end l = record {
  long : length l.errors ≡ 257;
  made : (b : ℕ) → b < l.end → get_or l.errors b 0 ≡ error_of l.sums 0 b;
  small : (b : ℕ) → get_or l.errors b 0 ≤ 1267650600228229401496703205376;
}
