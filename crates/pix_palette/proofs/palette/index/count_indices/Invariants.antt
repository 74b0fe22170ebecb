-- What holds at each turn of the loop over `i` in `count_indices`.
use Rattle.std.proofs.Common.{take, length}
use Rattle.pix_palette.specs.Histogram.{IsHistogram}
use Rattle.pix_palette.proofs.palette.index.count_indices.Given as goal

-- the indices below i are counted
abbrev pub invariant-loop-i : goal.invariant-loop-i
invariant-loop-i g l = IsHistogram g.T.PaletteIndex.number (length l.fn.counts) (take l.i l.indices) l.counts
