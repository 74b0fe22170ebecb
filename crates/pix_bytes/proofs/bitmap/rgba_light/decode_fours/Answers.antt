-- Of `decode_fours`: that the invariant of its loop over `k` holds after each turn.
use Rattle.std.proofs.Common.{◌≡◌, ◌≤◌, ◌+◌, ◌-◌, ◌*◌, length, arith}
use Rattle.pix_bytes.specs.Lit.{multiplied_light}
use Rattle.pix_bytes.proofs.Parts.{each_part}
use Rattle.pix_bytes.proofs.bitmap.rgba_light.decode_fours.Goals as goal

pub loop-k-preserved : goal.loop-k-preserved
loop-k-preserved c = λ index lt.
    let k = c.loop-k.k in
    let origin : 16 * k ≡ k * 4 * 4 = omega arith in
    let at : 32 * k ≡ k * 4 * 8 = omega arith in
    let span : 32 * k + 32 - 32 * k ≡ 4 * 8 = omega arith in
    let within : 32 * k ≤ length c.loop-k.dst = omega arith in
    let long : length c.decode_four.new.dst ≡ 32 * k + 32 - 32 * k = omega arith in
    each_part 255 65535 4 4 4 8 (multiplied_light c.args.is_reversed) c.args.src.now c.loop-k.dst c.decode_four.new.dst (k * 4) 4 (16 * k) (32 * k) (32 * k + 32 - 32 * k)
    c.loop-k.invariant origin at span within long c.decode_four.ensures index (omega (arith, lt))
