-- What holds at each turn of the loop over `i` in `entry_of`.
use Rattle.std.proofs.Common.{◌≡◌, map, take, false}
use Rattle.std.specs.List.{list_any}
use Rattle.pix_table.specs.SeenPixels.{seen_numbers}
use Rattle.pix_table.specs.quantization.SeenTables.{same_seen}
use Rattle.pix_table.proofs.rgba.quantization.entry_of.Given as goal

-- the color is not among the first i entries
abbrev pub invariant-loop-i : goal.invariant-loop-i
invariant-loop-i l = list_any (λ c. same_seen c (seen_numbers l.clr)) (map seen_numbers (take l.i l.entries)) ≡ false
