-- Of `map_eights`: that the invariant of its loop over `k` holds after each turn.
use Rattle.std.proofs.Common.{◌≡◌, ◌≤◌, ◌+◌, ◌-◌, ◌*◌, length, arith}
use Rattle.pix_bytes.specs.Recolored.{recolored}
use Rattle.pix_bytes.proofs.Parts.{each_part}
use Rattle.pix_bytes.proofs.bitmap.eights.map_eights.Goals as goal

pub loop-k-preserved : goal.loop-k-preserved
loop-k-preserved g c = λ index lt.
    let k = c.loop-k.k in
    let origin : 32 * k ≡ k * 8 * 4 = omega arith in
    let at : 32 * k ≡ k * 8 * 4 = omega arith in
    let span : 32 * k + 32 - 32 * k ≡ 8 * 4 = omega arith in
    let within : 32 * k ≤ length c.loop-k.dst = omega arith in
    let long : length c.map_eight.new.dst ≡ 32 * k + 32 - 32 * k = omega arith in
    each_part 255 255 4 4 4 4 (recolored g.T.Table.curve c.args.is_reversed c.args.is_premultiplied) c.args.src.now c.loop-k.dst c.map_eight.new.dst (k * 8) 8 (32 * k) (32 * k) (32 * k + 32 - 32 * k)
    c.loop-k.invariant origin at span within long c.map_eight.ensures index (omega (arith, lt))
