-- What holds at each turn of the loop over `level` in `best_start`.
use Rattle.std.proofs.Common.{◌≡◌, ℕ, ◌+◌, ◌<◌, ◌≤◌, get_or}
use Rattle.pix_table.specs.quantization.GrayLevels.{error_of}
use Rattle.pix_table.proofs.quantization.gray_parts.Parts.best_start.Given as goal

-- it is the best of the places below the level
abbrev pub invariant-loop-level : goal.invariant-loop-level
invariant-loop-level l = record {
  first : l.first ≤ l.best.level;
  last : l.best.level < l.level;
  made : l.best.error ≡ get_or l.self.errors l.best.level 0 + error_of l.sums l.best.level l.end;
  least : (a : ℕ) → l.first ≤ a → a < l.level → l.best.error ≤ get_or l.self.errors a 0 + error_of l.sums a l.end;
}
