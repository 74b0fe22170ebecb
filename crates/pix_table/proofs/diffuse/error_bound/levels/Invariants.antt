-- What holds at each turn of the loop over `i` in `levels`.
use Rattle.std.proofs.Common.{map}
use Rattle.pix_table.specs.diffuse.ErrorBound.{AreLevels}
use Rattle.pix_table.proofs.diffuse.error_bound.levels.Given as goal

-- the levels of the first i entries are marked
abbrev pub invariant-loop-i : goal.invariant-loop-i
invariant-loop-i g l = record {
  marked : AreLevels (map g.C.ShownAs.shown l.entries) l.channel l.i l.is_level;
}
