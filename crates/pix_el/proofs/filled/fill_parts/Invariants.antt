-- What holds at each turn of the loop over `k` in `fill_parts`.
use Rattle.std.proofs.Common.{◌≡◌, ◌*◌, ◌++◌, length, min, take, drop, replicate}
use Rattle.pix_el.proofs.filled.fill_parts.Given as goal

-- the parts below the index have the value
abbrev pub invariant-loop-k : goal.invariant-loop-k
invariant-loop-k g l =
    let n = min (l.k * l.part) (length l.fn.row) in
    l.row ≡ take n (replicate (length l.fn.row) l.value) ++ drop n l.fn.row
