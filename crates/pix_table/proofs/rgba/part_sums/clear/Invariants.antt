-- What holds at each turn of the loop over `i` in `clear`.
use Rattle.std.proofs.Common.{◌≡◌, ℕ, ◌<◌, get_or, length}
use Rattle.pix_table.specs.quantization.PartSums.{AreNone}
use Rattle.pix_table.proofs.rgba.part_sums.clear.Given as goal

-- the first i sums are those of no colors
abbrev pub invariant-loop-i : goal.invariant-loop-i
invariant-loop-i g l = record {
  long : length l.parts ≡ length l.fn.parts;
  none : (k : ℕ) (d : g.row.S.Denot) → k < l.i → AreNone (g.S.PartSums.whole (get_or l.parts k d));
}
