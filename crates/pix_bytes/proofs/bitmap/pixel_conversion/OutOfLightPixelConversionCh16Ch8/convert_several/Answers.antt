use Rattle.std.proofs.Common.{◌≡◌, true, false, sym, arith}
use Rattle.pix_bytes.specs.Shown.{shown}
use Rattle.pix_bytes.proofs.ShownFours.{rgba_shown, bgra_shown, each_same}
use Rattle.pix_bytes.proofs.bitmap.pixel_conversion.OutOfLightPixelConversionCh16Ch8.convert_several.Goals as goal

pub returns-then-has-clause-each : goal.returns-then-has-clause-each
returns-then-has-clause-each c =
    let t : c.has.result ≡ true = grind (arith, c.if-not-has.false, c.if-not-has.ensures) in
    rw (c.has.ensures t, c.has-2.ensures c.if-has.true)
    (each_same 65535 255 4 4 8 4 (shown false) _ c.args.src.now c.encode_fours.new.dst c.encode_fours.result (λ pixel. sym (rgba_shown pixel)) c.encode_fours.ensures.each)

pub returns-then-has-2-clause-each : goal.returns-then-has-2-clause-each
returns-then-has-2-clause-each c =
    let t : c.has.result ≡ true = grind (arith, c.if-not-has.false, c.if-not-has.ensures) in
    rw (c.has.ensures t, c.has-3.ensures c.if-has-2.true)
    (each_same 65535 255 4 4 8 4 (shown true) _ c.args.src.now c.encode_fours-then-has-2.new.dst c.encode_fours-then-has-2.result (λ pixel. sym (bgra_shown pixel)) c.encode_fours-then-has-2.ensures.each)
