-- What holds at each turn of the loop over `i` in `set_pixels`.
use Rattle.std.proofs.Common.{◌≡◌, ◌≤◌, true, false, ℕ, List, length, map, take}
use Rattle.pix_table.specs.matching.Nearest.{numbers}
use Rattle.pix_table.specs.threshold.Setting.{Always, IsSet}
use Rattle.pix_table.specs.threshold.TableBlocks.{IsTableCache}
use Rattle.pix_table.proofs.lemmas.threshold.IndexingSets.{AreSetBelow}
use Rattle.pix_table.proofs.threshold.index.set_pixels.Given as goal

-- the first i pixels have been set
abbrev pub invariant-loop-i : goal.invariant-loop-i
invariant-loop-i l = record {
  all : List ℕ;
  many : length all ≡ l.i;
  set : AreSetBelow numbers (IsSet numbers (Always (numbers l.threshold)) (length l.fn.slots)) 255 (take l.fn.len l.fn.slots)
      (map numbers l.pixels) l.i all (take l.used l.slots);
  written : l.write ≡ true → take l.i l.indices ≡ all;
  unwritten : l.write ≡ false → l.indices ≡ l.fn.indices;
  long : length l.indices ≡ length l.fn.indices;
  right : IsTableCache (numbers l.threshold) (map numbers (take l.used l.slots)) l.beside;
  within : l.used ≤ length l.slots;
  room : length l.slots ≡ length l.fn.slots;
}
