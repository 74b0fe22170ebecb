-- Of `encode_fours`: that the invariant of its loop over `k` holds after each turn.
use Rattle.std.proofs.Common.{◌≡◌, ◌≤◌, ◌+◌, ◌-◌, ◌*◌, length, arith}
use Rattle.pix_bytes.specs.Shown.{shown}
use Rattle.pix_bytes.proofs.Parts.{each_part}
use Rattle.pix_bytes.proofs.bitmap.levels.encode_fours.Goals as goal

pub loop-k-preserved : goal.loop-k-preserved
loop-k-preserved c = λ index lt.
    let k = c.loop-k.k in
    let origin : 32 * k ≡ k * 4 * 8 = omega arith in
    let at : 16 * k ≡ k * 4 * 4 = omega arith in
    let span : 16 * k + 16 - 16 * k ≡ 4 * 4 = omega arith in
    let within : 16 * k ≤ length c.loop-k.dst = omega arith in
    let long : length c.encode_four.new.dst ≡ 16 * k + 16 - 16 * k = omega arith in
    each_part 65535 255 4 4 8 4 (shown c.args.is_reversed) c.args.src.now c.loop-k.dst c.encode_four.new.dst (k * 4) 4 (32 * k) (16 * k) (16 * k + 16 - 16 * k)
    c.loop-k.invariant origin at span within long c.encode_four.ensures index (omega (arith, lt))
