-- What holds at each turn of the loop over `k` in `one_place`.
use Rattle.pix_scale.specs.SignedTable.{near_weight}
use Rattle.pix_scale.proofs.Terms.{Made}
use Rattle.pix_scale.proofs.signed_weights.one_place.Given as goal

-- the numbers below k are written
abbrev pub invariant-loop-k : goal.invariant-loop-k
invariant-loop-k l = record { plus : Made l.plus (near_weight l.first l.place) l.k; minus : Made l.minus (λ k. 0) l.k }
