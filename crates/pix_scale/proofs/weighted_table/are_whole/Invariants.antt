-- What holds at each turn of the loop over `i` in `are_whole`.
use Rattle.std.proofs.Common.{◌≡◌}
use Rattle.pix_scale.specs.Weighted.{given, is_whole, is_each}
use Rattle.pix_scale.proofs.weighted_table.are_whole.Given as goal

-- the rows below i are tried
abbrev pub invariant-loop-i : goal.invariant-loop-i
invariant-loop-i l = l.all ≡ is_each l.i (λ i. is_whole l.places (given l.firsts l.taps l.weights i))
