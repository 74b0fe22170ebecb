-- What holds at each turn of the loop over `i` in `write_table`.
use Rattle.pix_scale.proofs.Terms.{Made, Pixels}
use Rattle.pix_scale.proofs.Tables.{first_at, tap_at}
use Rattle.pix_scale.proofs.table.write_table.Given as goal

-- the rows below i are written
abbrev pub invariant-loop-i : goal.invariant-loop-i
invariant-loop-i l = record {
  made : Made l.firsts (first_at l.side.kernel l.side.places l.side.n l.side.m l.at) l.i;
  rows : Pixels l.weights l.taps (tap_at l.side.kernel l.side.places l.side.n l.side.m l.at) l.i;
}
