-- What holds at each turn of the loop over `i` in `gather`.
use Rattle.std.proofs.Common.{◌≡◌, ◌≤◌, map, take}
use Rattle.pix_table.specs.matching.Nearest.{numbers}
use Rattle.pix_table.specs.quantization.Quantization.{shown}
use Rattle.pix_table.proofs.quantization.gather.Given as goal

-- those of the first i pixels are gathered
abbrev pub invariant-loop-i : goal.invariant-loop-i
invariant-loop-i g l = record {
  within : l.count ≤ l.i;
  gathered : map numbers (take l.count l.work) ≡ shown l.alpha (map g.P.TablePixel.values (take l.i l.pixels));
}
