-- What holds at each turn of the loop over `index` in `convert_each`.
use Rattle.std.proofs.Common.{◌+◌}
use Rattle.pix_bytes.specs.Rows.{IsEach, format_at}
use Rattle.pix_bytes.proofs.bitmap.row_conversion.convert_each.Given as goal

-- the pixels below the index are made
abbrev pub invariant-loop-index : goal.invariant-loop-index
invariant-loop-index g l =
    IsEach g.C.Channel.max g.D.Channel.max l.from.count (l.to.count + l.to.spare) l.size l.to_size
    (g.W.PixelConversion.makes (format_at g.C.Channel.max l.from) (format_at g.D.Channel.max l.to)) l.src l.dst l.index
