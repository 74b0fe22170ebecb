-- Of `convert_row_pixels`: its pixels, and that those before its last call
-- are written.
use Rattle.pix_bytes.proofs.bitmap.row_conversion.convert_row_pixels.Goals as goal

pub convert_each-requires-clause-ahead : goal.convert_each-requires-clause-ahead
convert_each-requires-clause-ahead g c = rw (c.size.ensures, c.size-2.ensures) c.convert_several-first.ensures.each

pub returns : goal.returns
returns g c = rw (c.size.ensures, c.size-2.ensures) at c.convert_each.ensures
