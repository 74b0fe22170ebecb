-- Of `convert_pixels`: that a pixel's bytes lie in the buffer, and that the invariant of its loop
-- over `index` holds after each turn.
use Rattle.std.proofs.Common.{◌≡◌, ◌+◌, ◌-◌, ◌*◌, ◌≤◌, length, ◌∙◌, sym, ap, arith, refl, rules}
use Rattle.std.proofs.Math.Nat.{mul-le-mul_right}
use Rattle.pix_el.specs.Conversion.{converted}
use Rattle.pix_bytes.specs.Formats.{BufferFormat}
use Rattle.pix_bytes.proofs.ConvertedPixels.{bytes_format, converted_more}
use Rattle.pix_bytes.proofs.buffer.convert_pixels.Goals as goal

pub slice_bounds-write-end : goal.slice_bounds-write-end
slice_bounds-write-end g c =
    let index = c.loop-index.index in
    let next : (index + 1) * g.row.K ≤ c.args.count * g.row.K = mul-le-mul_right g.row.K (let p : index + 1 ≤ c.args.count = omega arith in p) in
    let fits : index * g.row.K + g.row.K ≤ length c.loop-index.dst = omega (arith, next, c.loop-index.auto.dst, c.requires.dst) in
    search rules

pub loop-index-preserved : goal.loop-index-preserved
loop-index-preserved g c =
    let index = c.loop-index.index in
    let m = g.M.ColorModel in
    let n = g.L.ColorModel in
    let from : BufferFormat = bytes_format g.row.N m.CIRCULAR m.LINEAR m.ALPHA m.KIND m.to_rgb m.of_rgb g.A.Alpha.mode g.G.Gamma.mode in
    let to : BufferFormat = bytes_format g.row.K n.CIRCULAR n.LINEAR n.ALPHA n.KIND n.to_rgb n.of_rgb g.B.Alpha.mode g.H.Gamma.mode in
    let span : index * g.row.K + g.row.K - index * g.row.K ≡ g.row.K = omega arith in
    let up : index * g.row.K ≤ c.args.count * g.row.K = mul-le-mul_right g.row.K (let p : index ≤ c.args.count = omega arith in p) in
    let within : index * g.row.K ≤ length c.loop-index.dst = omega (arith, up, c.loop-index.auto.dst, c.requires.dst) in
    let long : length c.write.new.bytes ≡ g.row.K = omega arith in
    converted_more from to c.args.src.now c.loop-index.dst c.write.new.bytes index _ _ c.loop-index.invariant refl span within (long ∙ sym span)
    (c.write.ensures ∙ c.convert-made.ensures ∙ ap (converted from.format from.gamma to.format to.gamma) c.of_bytes-pixel.ensures)
