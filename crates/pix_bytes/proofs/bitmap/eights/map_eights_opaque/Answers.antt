-- Of `map_eights_opaque`: that the invariant of its loop over `k` holds after each turn.
use Rattle.std.proofs.Common.{◌≡◌, ◌≤◌, ◌+◌, ◌-◌, ◌*◌, length, arith}
use Rattle.pix_bytes.specs.Recolored.{recolored}
use Rattle.pix_bytes.proofs.Parts.{each_part}
use Rattle.pix_bytes.proofs.bitmap.eights.map_eights_opaque.Goals as goal

pub loop-k-preserved : goal.loop-k-preserved
loop-k-preserved g c = λ m index lt.
    let k = c.loop-k.k in
    let origin : 24 * k ≡ k * 8 * 3 = omega arith in
    let at : 32 * k ≡ k * 8 * 4 = omega arith in
    let span : 32 * k + 32 - 32 * k ≡ 8 * 4 = omega arith in
    let within : 32 * k ≤ length c.loop-k.dst = omega arith in
    let long : length c.map_eight_opaque.new.dst ≡ 32 * k + 32 - 32 * k = omega arith in
    each_part 255 255 3 4 3 4 (recolored g.T.Table.curve c.args.is_reversed m) c.args.src.now c.loop-k.dst c.map_eight_opaque.new.dst (k * 8) 8 (24 * k) (32 * k) (32 * k + 32 - 32 * k)
    (c.loop-k.invariant m) origin at span within long (c.map_eight_opaque.ensures m) index (omega (arith, lt))
