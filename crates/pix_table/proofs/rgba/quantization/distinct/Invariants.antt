-- What holds at each turn of the loop over `i` in `distinct`.
use Rattle.std.proofs.Common.{◌≡◌, ◌≤◌, length, map, take}
use Rattle.pix_table.specs.SeenPixels.{rgba_numbers, seen, seen_numbers}
use Rattle.pix_table.specs.quantization.SeenTables.{distinct_pixels}
use Rattle.pix_table.proofs.rgba.quantization.distinct.Given as goal

-- the distinct ones of the first i pixels are written, and what they are seen as is in the table
abbrev pub invariant-loop-i : goal.invariant-loop-i
invariant-loop-i g l = record {
  within : l.count ≤ length l.entries;
  many : length l.table ≡ 256;
  written : map rgba_numbers (take l.count l.entries) ≡ distinct_pixels (map g.P.TablePixel.values (take l.i l.pixels));
  shown : map seen_numbers (take l.count l.table) ≡ map seen (map rgba_numbers (take l.count l.entries));
}
