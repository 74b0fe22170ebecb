-- What holds at each turn of the loop over `i` in `closest_between`.
use Rattle.std.proofs.Common.{map}
use Rattle.pix_table.specs.matching.Nearest.{numbers}
use Rattle.pix_table.specs.threshold.ColorBlocks.{IsBest}
use Rattle.pix_table.proofs.threshold.closest_between.Given as goal

-- `at` is the match among the first i colors, and `least` its difference
abbrev pub invariant-loop-i : goal.invariant-loop-i
invariant-loop-i g l = IsBest (map g.C.TableColor.channels l.colors) (numbers l.clr) l.i l.at (numbers l.least)
