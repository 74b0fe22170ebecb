-- What holds at each turn of the loop over `i` in `write_straight`.
use Rattle.std.proofs.Common.{◌≡◌, length, map, take}
use Rattle.pix_table.specs.SeenPixels.{rgba_numbers, seen_numbers, straight}
use Rattle.pix_table.proofs.rgba.quantization.write_straight.Given as goal

-- the first i entries are written
abbrev pub invariant-loop-i : goal.invariant-loop-i
invariant-loop-i l = record {
  written : map rgba_numbers (take l.i l.entries) ≡ map straight (map seen_numbers (take l.i l.table));
  many : length l.entries ≡ length l.fn.entries;
}
