-- Of `encode_sixteens`: that the invariant of its loop over `k` holds after each turn.
use Rattle.std.proofs.Common.{◌≡◌, ◌≤◌, ◌+◌, ◌-◌, ◌*◌, length, arith}
use Rattle.pix_bytes.specs.Shown.{shown}
use Rattle.pix_bytes.proofs.Parts.{each_part}
use Rattle.pix_bytes.proofs.bitmap.levels.encode_sixteens.Goals as goal

pub loop-k-preserved : goal.loop-k-preserved
loop-k-preserved c = λ index lt.
    let k = c.loop-k.k in
    let origin : 128 * k ≡ k * 16 * 8 = omega arith in
    let at : 64 * k ≡ k * 16 * 4 = omega arith in
    let span : 64 * k + 64 - 64 * k ≡ 16 * 4 = omega arith in
    let within : 64 * k ≤ length c.loop-k.dst = omega arith in
    let long : length c.encode_sixteen.new.dst ≡ 64 * k + 64 - 64 * k = omega arith in
    each_part 65535 255 4 4 8 4 (shown c.args.is_reversed) c.args.src.now c.loop-k.dst c.encode_sixteen.new.dst (k * 16) 16 (128 * k) (64 * k) (64 * k + 64 - 64 * k)
    c.loop-k.invariant origin at span within long c.encode_sixteen.ensures index (omega (arith, lt))
