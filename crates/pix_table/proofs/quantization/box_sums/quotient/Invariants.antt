-- What holds at each turn of the loop over `q` in `quotient`.
use Rattle.std.proofs.Common.{◌≡◌, ◌+◌, ◌*◌}
use Rattle.pix_table.proofs.quantization.box_sums.quotient.Given as goal

-- q times the divisor was taken from the number
abbrev pub invariant-loop-q : goal.invariant-loop-q
invariant-loop-q l = l.n ≡ l.q * l.d + l.rest
