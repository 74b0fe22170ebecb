-- What holds at each turn of the loop over `i` in `write_signed_table`.
use Rattle.pix_scale.proofs.SignedTables.{FilterRows}
use Rattle.pix_scale.proofs.signed_table.write_signed_table.Given as goal

-- the rows below i are written
abbrev pub invariant-loop-i : goal.invariant-loop-i
invariant-loop-i l = FilterRows l.filter l.places l.n l.m l.at l.taps l.firsts l.plus l.minus l.i
