-- What holds at each turn of the loop over `level` in `widest_step`.
use Rattle.std.proofs.Common.{map}
use Rattle.pix_table.proofs.lemmas.diffuse.ErrorBounds.{IsWidest}
use Rattle.pix_table.proofs.diffuse.error_bound.widest_step.Given as goal

-- the steps below the level are done
abbrev pub invariant-loop-level : goal.invariant-loop-level
invariant-loop-level g l = record {
  done : IsWidest (map g.C.ShownAs.shown l.entries) l.channel l.is_level l.level l.last l.widest;
}
