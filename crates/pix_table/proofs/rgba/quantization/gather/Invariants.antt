-- What holds at each turn of the loop over `i` in `gather`.
use Rattle.std.proofs.Common.{◌≡◌, map, take, All}
use Rattle.pix_table.specs.SeenPixels.{AreSeen, seen, seen_numbers}
use Rattle.pix_table.proofs.rgba.quantization.gather.Given as goal

-- those of the first i pixels are written
abbrev pub invariant-loop-i : goal.invariant-loop-i
invariant-loop-i g l = record {
  gathered : map seen_numbers (take l.i l.colors) ≡ map seen (map g.P.TablePixel.values (take l.i l.pixels));
  seen : All AreSeen (map seen_numbers (take l.i l.colors));
}
