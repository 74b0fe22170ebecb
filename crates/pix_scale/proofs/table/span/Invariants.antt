-- What holds at each turn of the loop over `i` in `span`.
use Rattle.std.proofs.Common.{ℕ, ◌<◌, ◌≤◌, ◌+◌, get_or}
use Rattle.pix_scale.proofs.table.span.Given as goal

-- the places before i lie between both
abbrev pub invariant-loop-i : goal.invariant-loop-i
invariant-loop-i l = record {
  low : (k : ℕ) → k < l.i → l.low ≤ get_or l.firsts k 0;
  high : (k : ℕ) → k < l.i → get_or l.firsts k 0 ≤ l.high;
  order : l.low ≤ l.high;
  within : l.high + l.taps ≤ l.places;
}
