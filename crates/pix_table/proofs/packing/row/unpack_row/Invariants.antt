-- What holds at each turn of the loop over `i` in `unpack_row`.
use Rattle.std.proofs.Common.{◌≡◌, ◌/◌, ◌%◌, ◌<◌, ℕ, get_or}
use Rattle.pix_table.specs.packing.Packing.{place, places}
use Rattle.pix_table.proofs.packing.row.unpack_row.Given as goal

-- the first i indices are unpacked
abbrev pub invariant-loop-i : goal.invariant-loop-i
invariant-loop-i l = (k : ℕ) → k < l.i → get_or l.indices k 0 ≡ place l.depth (get_or l.bytes (k / places l.depth) 0) (k % places l.depth)
