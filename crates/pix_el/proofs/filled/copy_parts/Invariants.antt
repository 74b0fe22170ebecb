-- What holds at each turn of the loop over `k` in `copy_parts`.
use Rattle.std.proofs.Common.{◌≡◌, ◌*◌, ◌++◌, length, min, take, drop}
use Rattle.pix_el.proofs.filled.copy_parts.Given as goal

-- the parts below the index are copied
abbrev pub invariant-loop-k : goal.invariant-loop-k
invariant-loop-k g l =
    let n = min (l.k * g.row.PART) (min (length l.fn.row) (length l.src)) in
    l.row ≡ take n l.src ++ drop n l.fn.row
