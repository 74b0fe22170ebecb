-- What holds at each turn of the loop over `place` in `write_all`.
use Rattle.pix_el.proofs.Written.{Written}
use Rattle.pix_el.proofs.filled.write_all.Given as goal

-- the places below the index have the value
abbrev pub invariant-loop-place : goal.invariant-loop-place
invariant-loop-place g l = Written (λ _ _. l.value) l.value l.initial.row l.row l.place-index
