-- What holds at each turn of the loop over `i` in `map_grays`.
use Rattle.pix_bytes.specs.Recolored.{gray_recolored}
use Rattle.pix_bytes.specs.Rows.{IsEach}
use Rattle.pix_bytes.proofs.bitmap.grays.map_grays.Given as goal

-- the pixels before the next one are written
abbrev pub invariant-loop-i : goal.invariant-loop-i
invariant-loop-i g l = IsEach 255 255 1 4 1 4 (gray_recolored g.T.Table.curve) l.src l.dst l.i
