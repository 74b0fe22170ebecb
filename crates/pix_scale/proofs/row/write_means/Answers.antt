use Rattle.std.proofs.Common.{◌≡◌, ℕ, ◌<◌, ◌+◌, ◌-◌, ◌*◌, length, get_or, arith, ap, ◌∙◌}
use Rattle.std.specs.Prelude.{pos}
use Rattle.pix_chan.specs.Nearest.{nearest}
use Rattle.std.proofs.lemmas.List.{length-map, map-set}
use Rattle.std.proofs.lemmas.Nat.{row_fits}
use Rattle.pix_scale.proofs.Written.{written_none, written_more}
use Rattle.pix_scale.proofs.Sums.{tap_total, part_by, length_part}
use Rattle.pix_scale.proofs.row.write_means.Goals as goal

pub new_pixel-requires-clause-fits : goal.new_pixel-requires-clause-fits
new_pixel-requires-clause-fits g c =
    let i = c.loop-i.i in
    let taps = c.args.taps in
    let ws = c.args.weights.now in
    let row = row_fits i taps (length c.args.firsts.now) taps c.loop-i-test.true (omega arith) in
    omega (arith, tap_total ws taps i (i * taps + taps - i * taps) (omega arith) (omega (arith, row, c.requires.table)), c.requires.fits i c.loop-i-test.true)

pub new_pixel-requires-clause-bound : goal.new_pixel-requires-clause-bound
new_pixel-requires-clause-bound g c = λ ch lt.
    let i = c.loop-i.i in
    let n = g.P.Pixel.layout.count in
    let m = length c.channels-n.result.now in
    let taps = c.args.taps in
    let ws = c.args.weights.now in
    let first : ℕ = get_or c.args.firsts.now i 0 in
    let same : m ≡ n = c.channels-n.ensures.count in
    let spread : (first + taps) * m ≡ first * m + taps * m = omega arith in
    let table = row_fits i taps (length c.args.firsts.now) taps c.loop-i-test.true (omega arith) in
    let e = part_by ws c.args.sums.now taps n m i first ch (i * taps + taps - i * taps) ((first + taps) * m - first * m) same
    (omega arith) (omega (arith, spread)) lt (omega (arith, table, c.requires.table)) in
    omega (arith, e, c.requires.bound i ch c.loop-i-test.true lt)

pub new_pixel-requires-clause-inside : goal.new_pixel-requires-clause-inside
new_pixel-requires-clause-inside g c = λ k lt.
    let i = c.loop-i.i in
    let n = g.P.Pixel.layout.count in
    let m = length c.channels-n.result.now in
    let same : m ≡ n = c.channels-n.ensures.count in
    let taps = c.args.taps in
    let first : ℕ = get_or c.args.firsts.now i 0 in
    let spread : (first + taps) * n ≡ first * n + taps * n = omega arith in
    let table = row_fits i taps (length c.args.firsts.now) taps c.loop-i-test.true (omega arith) in
    let many = length_part c.args.weights.now (i * taps) (i * taps + taps - i * taps) (omega (arith, table, c.requires.table)) in
    let in_ : k < taps = omega (arith, many, lt) in
    let a : (first + taps) * m ≡ (first + taps) * n = ap (λ z. (first + taps) * z) same in
    let b : first * m ≡ first * n = ap (λ z. first * z) same in
    let long = length_part c.args.sums.now (first * m) ((first + taps) * m - first * m) (omega (arith, spread, a, b, c.requires.inside i c.loop-i-test.true)) in
    omega (arith, long, spread, a, b, row_fits k n taps n in_ (omega arith))

pub loop-i-init : goal.loop-i-init
loop-i-init g c = written_none _ _ _

pub loop-i-preserved : goal.loop-i-preserved
loop-i-preserved g c =
    let n = g.P.Pixel.layout.count in
    let m = length c.channels-n.result.now in
    let same : m ≡ n = c.channels-n.ensures.count in
    let i = c.loop-i.i in
    let taps = c.args.taps in
    let ws = c.args.weights.now in
    let first : ℕ = get_or c.args.firsts.now i 0 in
    let spread : (first + taps) * m ≡ first * m + taps * m = omega arith in
    let table = row_fits i taps (length c.args.firsts.now) taps c.loop-i-test.true (omega arith) in
    rw map-set (written_more _ n _ i (g.D.Stored.reads c.new_pixel.result) (omega (arith, length-map c.loop-i.to g.D.Stored.reads)) c.loop-i.invariant
    (λ ch lt. c.new_pixel.ensures ch lt
    ∙ ap (λ s. nearest g.P.Chan.Channel.max (pos s) (pos c.args.by.whole))
    (part_by ws c.args.sums.now taps n m i first ch (i * taps + taps - i * taps) ((first + taps) * m - first * m) same
    (omega arith) (omega (arith, spread)) lt (omega (arith, table, c.requires.table)))))

pub returns : goal.returns
returns g c = λ i ch lt in_. c.loop-i.invariant.at i ch (omega arith) in_
