-- What holds at each turn of the loop over `k` in `decode_fours`.
use Rattle.std.specs.Prelude.{◌*◌}
use Rattle.pix_bytes.specs.Lit.{multiplied_light}
use Rattle.pix_bytes.specs.Rows.{IsEach}
use Rattle.pix_bytes.proofs.bitmap.rgba_light.decode_fours.Given as goal

-- the pixels before the next four are written
abbrev pub invariant-loop-k : goal.invariant-loop-k
invariant-loop-k l = IsEach 255 65535 4 4 4 8 (multiplied_light l.is_reversed) l.src l.dst (l.k * 4)
