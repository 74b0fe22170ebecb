-- What holds at each turn of the loop over `i` in `seen_entries`.
use Rattle.std.proofs.Common.{◌≡◌, All, length, map, take}
use Rattle.pix_table.specs.SeenPixels.{AreSeen, seen, seen_numbers}
use Rattle.pix_table.proofs.rgba.matched.seen_entries.Given as goal

-- the first i entries are there
abbrev pub invariant-loop-i : goal.invariant-loop-i
invariant-loop-i g l = record {
  copied : map seen_numbers (take l.i l.colors) ≡ map (λ entry. seen (g.E.TablePixel.values entry)) (take l.i l.entries);
  seen : All AreSeen (map seen_numbers (take l.i l.colors));
  long : length l.colors ≡ 256;
}
