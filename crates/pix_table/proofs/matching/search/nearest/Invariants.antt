-- What holds at each turn of the loop over `i` in `nearest`.
use Rattle.std.proofs.Common.{map}
use Rattle.pix_table.specs.matching.Nearest.{numbers}
use Rattle.pix_table.proofs.lemmas.matching.NearestEntries.{IsNearestBelow}
use Rattle.pix_table.proofs.matching.search.nearest.Given as goal

-- `at` is the nearest among the first i entries
abbrev pub invariant-loop-i : goal.invariant-loop-i
invariant-loop-i g l = IsNearestBelow (map g.C.TableColor.channels l.colors) (numbers l.clr) l.i l.at l.least
