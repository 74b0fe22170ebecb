-- What holds at each turn of the loop over `y` in `convert_rows`.
use Rattle.pix_bytes.specs.Rows.{stored_of}
use Rattle.pix_bytes.proofs.Bitmaps.{IsWritten}
use Rattle.pix_bytes.proofs.bitmap.convert_rows.Given as goal

-- the rows above y are written
abbrev pub invariant-loop-y : goal.invariant-loop-y
invariant-loop-y l =
    IsWritten (stored_of l.from) (stored_of l.to) l.width l.height l.src_lines.stride l.dst_lines.stride l.src l.fn.dst l.dst l.y
