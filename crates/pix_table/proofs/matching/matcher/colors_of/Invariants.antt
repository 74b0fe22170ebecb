-- What holds at each turn of the loop over `i` in `colors_of`.
use Rattle.std.proofs.Common.{◌≡◌, length, map, take}
use Rattle.pix_table.specs.matching.Nearest.{numbers}
use Rattle.pix_table.proofs.matching.matcher.colors_of.Given as goal

-- the first i entries are copied
abbrev pub invariant-loop-i : goal.invariant-loop-i
invariant-loop-i g l = record {
  copied : map numbers (take l.i l.entries) ≡ map g.C.TableColor.channels (take l.i l.colors);
  long : length l.entries ≡ 256;
}
