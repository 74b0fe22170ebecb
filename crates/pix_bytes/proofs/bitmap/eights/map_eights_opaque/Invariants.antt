-- What holds at each turn of the loop over `k` in `map_eights_opaque`.
use Rattle.std.specs.Prelude.{◌*◌}
use Rattle.std.proofs.Common.{Bool}
use Rattle.pix_bytes.specs.Recolored.{recolored}
use Rattle.pix_bytes.specs.Rows.{IsEach}
use Rattle.pix_bytes.proofs.bitmap.eights.map_eights_opaque.Given as goal

-- the pixels before the next eight are written
abbrev pub invariant-loop-k : goal.invariant-loop-k
invariant-loop-k g l = (m : Bool) → IsEach 255 255 3 4 3 4 (recolored g.T.Table.curve l.is_reversed m) l.src l.dst (l.k * 8)
