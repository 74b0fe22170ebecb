-- What holds at each turn of the loop over `k` in `encode_sixteens`.
use Rattle.std.specs.Prelude.{◌*◌}
use Rattle.pix_bytes.specs.Shown.{shown}
use Rattle.pix_bytes.specs.Rows.{IsEach}
use Rattle.pix_bytes.proofs.bitmap.levels.encode_sixteens.Given as goal

-- the pixels before the next sixteen are written
abbrev pub invariant-loop-k : goal.invariant-loop-k
invariant-loop-k l = IsEach 65535 255 4 4 8 4 (shown l.is_reversed) l.src l.dst (l.k * 16)
