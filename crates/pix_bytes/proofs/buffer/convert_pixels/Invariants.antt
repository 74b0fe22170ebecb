-- What holds at each turn of the loop over `index` in `convert_pixels`.
use Rattle.pix_bytes.specs.Converted.{IsConverted}
use Rattle.pix_bytes.proofs.ConvertedPixels.{bytes_format}
use Rattle.pix_bytes.proofs.buffer.convert_pixels.Given as goal

-- the pixels below index are converted
abbrev pub invariant-loop-index : goal.invariant-loop-index
invariant-loop-index g l =
    let m = g.M.ColorModel in
    let n = g.L.ColorModel in
    IsConverted (bytes_format g.row.N m.CIRCULAR m.LINEAR m.ALPHA m.KIND m.to_rgb m.of_rgb g.A.Alpha.mode g.G.Gamma.mode)
    (bytes_format g.row.K n.CIRCULAR n.LINEAR n.ALPHA n.KIND n.to_rgb n.of_rgb g.B.Alpha.mode g.H.Gamma.mode) l.index l.src l.dst
