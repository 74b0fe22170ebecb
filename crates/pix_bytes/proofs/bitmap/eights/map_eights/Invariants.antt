-- What holds at each turn of the loop over `k` in `map_eights`.
use Rattle.std.specs.Prelude.{◌*◌}
use Rattle.pix_bytes.specs.Recolored.{recolored}
use Rattle.pix_bytes.specs.Rows.{IsEach}
use Rattle.pix_bytes.proofs.bitmap.eights.map_eights.Given as goal

-- the pixels before the next eight are written
abbrev pub invariant-loop-k : goal.invariant-loop-k
invariant-loop-k g l = IsEach 255 255 4 4 4 4 (recolored g.T.Table.curve l.is_reversed l.is_premultiplied) l.src l.dst (l.k * 8)
