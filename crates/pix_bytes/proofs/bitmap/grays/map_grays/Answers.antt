-- Of `map_grays`: that the invariant of its loop over `i` holds after each turn.
use Rattle.std.proofs.Common.{◌≡◌, ◌≤◌, ◌+◌, ◌*◌, ◌-◌, length, arith}
use Rattle.pix_bytes.specs.Recolored.{gray_recolored}
use Rattle.pix_bytes.proofs.Parts.{each_more}
use Rattle.pix_bytes.proofs.RecoloredRows.{gray_is}
use Rattle.pix_bytes.proofs.bitmap.grays.map_grays.Goals as goal

pub loop-i-preserved : goal.loop-i-preserved
loop-i-preserved g c = λ index lt.
    let i = c.loop-i.i in
    let curve = g.T.Table.curve in
    let src = c.args.src.now in
    let at : 4 * i ≡ i * 4 = omega arith in
    let span : 4 * i + 4 - 4 * i ≡ 4 = omega arith in
    let within : 4 * i ≤ length c.loop-i.dst = omega arith in
    let long : length c.map_gray.new.dst ≡ 4 = omega arith in
    each_more 255 255 1 4 1 4 (gray_recolored curve) src c.loop-i.dst c.map_gray.new.dst i (4 * i) (4 * i + 4 - 4 * i)
    c.loop-i.invariant at span within long (gray_is curve src c.map_gray.new.dst i c.map_gray.ensures) index lt
