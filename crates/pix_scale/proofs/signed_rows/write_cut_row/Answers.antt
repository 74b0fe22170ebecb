use Rattle.std.proofs.Common.{◌≡◌, ℕ, ◌<◌, ◌+◌, ◌-◌, ◌*◌, length, get_or, arith, ap, ◌∙◌}
use Rattle.std.proofs.lemmas.List.{length-map, map-set}
use Rattle.std.proofs.lemmas.Nat.{row_fits}
use Rattle.pix_scale.proofs.Sums.{tap_total, length_part}
use Rattle.pix_scale.proofs.Written.{written_none, written_more}
use Rattle.pix_scale.proofs.SignedSums.{cut_part}
use Rattle.pix_scale.proofs.signed_rows.write_cut_row.Goals as goal

pub cut_pixel-requires-clause-plus_fits : goal.cut_pixel-requires-clause-plus_fits
cut_pixel-requires-clause-plus_fits g c =
    let i = c.loop-i.i in
    let taps = c.args.taps in
    let row = row_fits i taps (length c.args.firsts.now) taps c.loop-i-test.true (omega arith) in
    omega (arith, tap_total c.args.plus.now taps i (i * taps + taps - i * taps) (omega arith) (omega (arith, row, c.requires.plus)), c.requires.plus_fits i c.loop-i-test.true)

pub cut_pixel-requires-clause-minus_fits : goal.cut_pixel-requires-clause-minus_fits
cut_pixel-requires-clause-minus_fits g c =
    let i = c.loop-i.i in
    let taps = c.args.taps in
    let row = row_fits i taps (length c.args.firsts.now) taps c.loop-i-test.true (omega arith) in
    omega (arith, tap_total c.args.minus.now taps i (i * taps + taps - i * taps) (omega arith) (omega (arith, row, c.requires.minus)), c.requires.minus_fits i c.loop-i-test.true)

pub cut_pixel-requires-clause-same : goal.cut_pixel-requires-clause-same
cut_pixel-requires-clause-same g c =
    let i = c.loop-i.i in
    let taps = c.args.taps in
    let row = row_fits i taps (length c.args.firsts.now) taps c.loop-i-test.true (omega arith) in
    omega (
      arith,
      length_part c.args.plus.now (i * taps) (i * taps + taps - i * taps) (omega (arith, row, c.requires.plus)),
      length_part c.args.minus.now (i * taps) (i * taps + taps - i * taps) (omega (arith, row, c.requires.minus)),
    )

pub cut_pixel-requires-clause-inside : goal.cut_pixel-requires-clause-inside
cut_pixel-requires-clause-inside g c = λ k lt.
    let i = c.loop-i.i in
    let n = g.P.Pixel.layout.count in
    let m = length c.channels-n.result.now in
    let same : m ≡ n = c.channels-n.ensures.count in
    let taps = c.args.taps in
    let first : ℕ = get_or c.args.firsts.now i 0 in
    let spread : (first + taps) * n ≡ first * n + taps * n = omega arith in
    let table = row_fits i taps (length c.args.firsts.now) taps c.loop-i-test.true (omega arith) in
    let many = length_part c.args.plus.now (i * taps) (i * taps + taps - i * taps) (omega (arith, table, c.requires.plus)) in
    let in_ : k < taps = omega (arith, many, lt) in
    let a : (first + taps) * m ≡ (first + taps) * n = ap (λ z. (first + taps) * z) same in
    let b : first * m ≡ first * n = ap (λ z. first * z) same in
    let long = length_part c.args.sums.now (first * m) ((first + taps) * m - first * m) (omega (arith, spread, a, b, c.requires.inside i c.loop-i-test.true)) in
    omega (arith, long, spread, a, b, row_fits k n taps n in_ (omega arith))

pub loop-i-init : goal.loop-i-init
loop-i-init g c = written_none _ _ _

pub loop-i-preserved : goal.loop-i-preserved
loop-i-preserved g c =
    let n = g.P.Pixel.layout.count in
    let m = length c.channels-n.result.now in
    let same : m ≡ n = c.channels-n.ensures.count in
    let i = c.loop-i.i in
    let taps = c.args.taps in
    let first : ℕ = get_or c.args.firsts.now i 0 in
    let spread : (first + taps) * m ≡ first * m + taps * m = omega arith in
    let table = row_fits i taps (length c.args.firsts.now) taps c.loop-i-test.true (omega arith) in
    rw map-set (written_more _ n _ i (g.D.Stored.reads c.cut_pixel.result) (omega (arith, length-map c.loop-i.to g.D.Stored.reads)) c.loop-i.invariant
    (λ ch lt. c.cut_pixel.ensures ch lt
    ∙ cut_part g.P.Pixel.layout c.args.plus.now c.args.minus.now c.args.sums.now taps m i first (i * taps + taps - i * taps) (i * taps + taps - i * taps)
    ((first + taps) * m - first * m) ch same (omega arith) (omega arith) (omega (arith, spread)) lt
    (omega (arith, table, c.requires.plus)) (omega (arith, table, c.requires.minus))))

pub returns : goal.returns
returns g c = λ i ch lt in_. c.loop-i.invariant.at i ch (omega arith) in_
