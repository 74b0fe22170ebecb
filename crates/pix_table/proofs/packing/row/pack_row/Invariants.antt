-- What holds at each turn of the loop over `j` in `pack_row`.
use Rattle.std.proofs.Common.{◌≡◌, ◌+◌, ◌*◌, ◌<◌, ℕ, get_or}
use Rattle.pix_table.specs.packing.Packing.{place, places}
use Rattle.pix_table.proofs.packing.row.pack_row.Given as goal

-- the first j bytes are packed
abbrev pub invariant-loop-j : goal.invariant-loop-j
invariant-loop-j l = (k : ℕ) → k < l.j → (t : ℕ) → t < places l.depth → place l.depth (get_or l.bytes k 0) t ≡ get_or l.indices (k * places l.depth + t) 0
