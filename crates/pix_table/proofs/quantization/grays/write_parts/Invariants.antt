-- What holds at each turn of the loop over `i` in `write_parts`.
use Rattle.std.proofs.Common.{◌≡◌, ◌≤◌, length, map, take}
use Rattle.pix_table.specs.matching.Nearest.{numbers}
use Rattle.pix_table.proofs.lemmas.quantization.PartLemmas.{AreShown}
use Rattle.pix_table.proofs.quantization.grays.write_parts.Given as goal

-- i parts are written, which are those of the levels from end on
abbrev pub invariant-loop-i : goal.invariant-loop-i
invariant-loop-i l = record {
  few : l.end ≤ l.len;
  begun : l.i ≡ 0 → l.end ≡ l.len;
  done : length l.starts ≤ l.i → l.end ≡ 0;
  shown : AreShown l.len l.sums l.starts (map numbers (take l.i l.entries)) l.i l.end;
}
