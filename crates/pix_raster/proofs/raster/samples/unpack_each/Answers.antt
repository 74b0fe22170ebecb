-- Of `unpack_each`: that the invariant of its loop over `i` holds after each turn.
use Rattle.std.proofs.Common.{◌≡◌, ◌+◌, ◌*◌, ◌-◌, ap, ◌∙◌, arith}
use Rattle.pix_raster.proofs.Samples.{unpacked_more}
use Rattle.pix_raster.proofs.raster.samples.unpack_each.Goals as goal

pub loop-i-preserved : goal.loop-i-preserved
loop-i-preserved g c =
    let i = c.loop-i.i in
    let count = c.channel_count-count in
    let wide : i * count.result + count.result - i * count.result ≡ count.result = omega arith in
    unpacked_more g.P.Pixel.numbers g.S.Sample.number c.loop-i.pixels c.args.samples.now i g.P.Pixel.layout.count _ _ c.write_pixel.new.pixel (omega arith)
    (ap (λ k. i * k) count.ensures) (wide ∙ count.ensures) c.loop-i.invariant c.write_pixel.ensures
