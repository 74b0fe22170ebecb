-- Of `count_indices`: that the invariant of its loop over `i` holds after each turn.
use Rattle.std.proofs.Common.{arith}
use Rattle.pix_palette.proofs.HistogramLemmas.{histogram_more}
use Rattle.pix_palette.proofs.palette.index.count_indices.Goals as goal

pub loop-i-preserved : goal.loop-i-preserved
loop-i-preserved g c =
    histogram_more g.T.PaletteIndex.number _ c.args.indices.now c.loop-i.counts c.loop-i.i c.index-indices-i.result c.index-at.result (omega arith)
    c.index-indices-i.is c.index-at.ensures (omega (arith, c.loop-i.invariant.as_many)) c.loop-i.invariant
